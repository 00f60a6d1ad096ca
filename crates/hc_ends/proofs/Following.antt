-- The request that follows a redirect is one of those to which the location of a leaf leads.
use Rattle.std.proofs.Common.{◌≡◌, ◌∙◌, inl, inr, ℕ, ◌+◌, ◌≤◌, List, [], ◌∷◌, ◌++◌, not, Bool, true, false}
use Rattle.std.proofs.Common.{Some, refl, sym, ap, subst, true≢false, arith, length, if◌then◌else◌, length-append}
use Rattle.std.proofs.Common.{length-take, nat_le}
use Rattle.std.proofs.lemmas.Bool.{le-leb, ltb-false}
use Rattle.std.proofs.lemmas.List.Folds.{list_all-append}
use Rattle.std.specs.List.{before_first, list_all, list_any, position_or_len}
use Rattle.std.specs.Prelude.{nat_lt}
use Rattle.hc_base.specs.Bytes.{slash}
use Rattle.hc_base.specs.Paths.{begins_with_slash, is_clean}
use Rattle.hc_follow.specs.Next.{behind, is_hash, method_behind, target_in}
use Rattle.hc_follow.specs.declared.next.Next.TheVariants.{Go, Halt}
use Rattle.hc_follow.specs.declared.next.Stop.TheVariants.{BadTarget}
use Rattle.hc_follow.specs.declared.origin.Origin.{Origin}
use Rattle.hc_forms.specs.Forms.{is_host_byte, is_target, is_target_byte}
use Rattle.hc_members.specs.Requests.{is_of_scope}
use Rattle.hc_model.specs.declared.outcome.Outcome.TheVariants as outcome
use Rattle.hc_model.specs.declared.request.Request.{Request}
use Rattle.hc_plan.proofs.Common.{and_left, and_right}
use Rattle.hc_plan.proofs.Covering.{among_one, among_other}
use Rattle.hc_plan.specs.Cover.{Among}
use Rattle.hc_scope.specs.declared.claim.Scope.{Scope}
use Rattle.hc_abs_tree.specs.Trees.{Leaf}
use Rattle.hc_sent.proofs.ReadFronts.{begun, weigh}
use Rattle.hc_sent.proofs.Reading.{read_back}
use Rattle.hc_sent.specs.Parts.{Sent}
use Rattle.hc_sent.specs.Reading.{AreNamed, IsReadAs}
use Rattle.hc_sent.specs.Ways.{AreLedFrom, AreLedTo, AreOn, AreOutside, IsFirst, MayFail}
use Rattle.hc_sent.specs.declared.leading.Led.{Led}
use Rattle.hc_sent.specs.declared.leading.Led.TheVariants as led
use Rattle.hc_sent.specs.declared.parts.Part.{Part}
use Rattle.hc_sent.specs.declared.parts.TheConstants.{LONGEST_TARGET}
use Rattle.hc_ends.specs.Asking.{Site, next_scope}
use Rattle.hc_ends.specs.Breaking.{broken_then}
use Rattle.hc_ends.specs.Chains.{Before, End, IsLed, behind as behind_leaf, is_outward}
use Rattle.hc_ends.specs.Deciding.{bad_of}
use Rattle.hc_ends.proofs.Fitting.{IsSafe, IsSafeAt, along, has_name, none_of}
use Rattle.hc_ends.proofs.Members.{next_within, plain_text, target_text}
use Rattle.hc_ends.proofs.Parts.{IsPart, uncut}

-- No chain of a request that is of a scope breaks the claim, where no end behind it is bad.
abbrev pub SafeFor : (Request → Bool) → (Scope → Before → List End → Type 0) → Type 0
SafeFor broken Further = (scope : Scope) (before : Before) (ends : List End) → Further scope before ends
    → bad_of ends ≡ [] → (request : Request) → is_of_scope scope request ≡ true → broken request ≡ false

-- ---- long locations

target_length : (rest : List ℕ) → length (target_in rest) ≤ length rest + 1
target_length rest = by (begins_with_slash text)
  where
    text : List ℕ
    text = before_first is_hash rest

    most : length text ≤ length rest
    most = let own = length-take (position_or_len is_hash rest) rest in omega arith

    by : (v : Bool) → length (if v then text else slash ∷ text) ≤ length rest + 1
    by true = omega (arith, most)
    by false = omega (arith, most)

-- The target behind an origin is no longer than the location.
short_target : (origin : Origin) (location rest : List ℕ) → list_all is_host_byte origin.host ≡ true
    → behind origin location ≡ Some rest → nat_lt LONGEST_TARGET (length location) ≡ false
    → nat_le (length (target_in rest)) LONGEST_TARGET ≡ true
short_target origin location rest host there short =
    let h = begun origin location rest host there in
    le-leb (length (target_in rest)) LONGEST_TARGET (by h.front h.is h.weight_is)
  where
    at_most : length location ≤ LONGEST_TARGET
    at_most = ltb-false LONGEST_TARGET (length location) short

    by : (front : List ℕ) → location ≡ front ++ rest → weigh front ≡ 2 → length (target_in rest) ≤ LONGEST_TARGET
    by [] same weight = absurd (cc)
    by (b ∷ front) same weight = omega (arith, at_most, ap length same, target_length rest, length-append front rest)

-- ---- at one location

module _ (site : Site) (levels : ℕ) (scope : Scope) (before : Before) (leaf : Leaf) (status : ℕ) (parts : List Part)
    (location : List ℕ) (is_sent : Sent parts location) (request : Request) (within : is_of_scope scope request ≡ true)
    (broken : Request → Bool) (Further : Scope → Before → List End → Type 0) (safe : SafeFor broken Further) where
  abbrev Leads : Led → List End → Type 0
  Leads = IsLed site false levels scope before leaf Further status

  -- No end behind where it leads is bad.
  abbrev AreGood : List Led → Type 0
  AreGood leds = (own : Led) → Among own leds → IsPart Leads own

  module _ (earlier : List Origin) (origin : Origin) (named : AreNamed (earlier ++ origin ∷ [])) (rest : List ℕ)
      (is : IsFirst earlier origin location rest) (on out : List Led) (goes : AreOn parts earlier origin on)
      (good : AreGood on) (fails : AreOutside parts earlier origin out) (inside : list_any is_outward out ≡ false) where
    none_fails : AreOutside parts earlier origin out → MayFail parts earlier origin → ⊥
    none_fails (inl found) any = true≢false (ap (list_any is_outward) (sym found.1) ∙ inside)
    none_fails (inr none) any = none.0 any

    read_as : nat_le (length (target_in rest)) LONGEST_TARGET ≡ true → IsReadAs parts earlier origin rest
    read_as short = read_back parts earlier origin location rest named is_sent is (none_fails fails) short

    -- The request that follows.
    abbrev next : Request
    next = record request {
      method = method_behind status request.method;
      scheme = origin.scheme;
      port = origin.port;
      host = origin.host;
      target = target_in rest;
    }

    goes_on : IsReadAs parts earlier origin rest → AreOn parts earlier origin on → broken next ≡ false
    goes_on found (inr none) = absurd (none.0 ((found.path, found.goes_to), (found.query, found.asks)))
    goes_on found (inl some) =
        let to = some.2 in
        let own = good (led.On origin to.0 to.1)
        (subst (Among (led.On origin to.0 to.1)) (sym (some.3 ∙ ap (λ one. one ∷ []) to.2)) (inl refl)) in
        let path_text = plain_text found.path (and_right (is_clean found.path) _ found.goes_to.1) in
        safe (next_scope scope status origin to.0 to.1) (behind_leaf before leaf) own.ends (uncut own.are) own.none next
        (next_within scope request status origin (target_in rest) found.path found.query to.0 to.1 within found.target
        found.read ((to.3 found.path path_text).1 found.goes_to)
        ((to.4 found.query (target_text found.query found.asks.1)).1 found.asks))

    host_named : list_all is_host_byte origin.host ≡ true
    host_named =
        and_left (list_all is_host_byte origin.host) true
        (and_right (list_all has_name earlier) (list_all has_name (origin ∷ []))
        (sym (list_all-append has_name earlier (origin ∷ [])) ∙ named))

    is_safe : (target : Bool) → is_target (target_in rest) ≡ target
        → broken_then broken (outcome.Redirect status location) (if target then Go next else Halt BadTarget) ≡ false
    is_safe true is_a =
        goes_on (read_as
        (and_right (begins_with_slash (target_in rest)) _ (and_left _ (list_all is_target_byte (target_in rest)) is_a)))
        goes
    is_safe false none = ap not (by (nat_lt LONGEST_TARGET (length location)) refl)
      where
        by : (long : Bool) → nat_lt LONGEST_TARGET (length location) ≡ long
            → nat_lt LONGEST_TARGET (length location) ≡ true
        by true long = long
        by false short =
            absurd (true≢false (sym (read_as (short_target origin location rest host_named is.1 short)).target ∙ none))

  -- No location is outside, and no end is bad.
  abbrev AllGood : List Origin → List Origin → Type 0
  AllGood earlier left = (leds : List Led) × AreLedFrom parts earlier left leds
      × (list_any is_outward leds ≡ false) × AreGood leds

  goes_next : (earlier : List Origin) (origin : Origin) (left : List Origin) → AllGood earlier (origin ∷ left)
      → AllGood (earlier ++ origin ∷ []) left
  goes_next earlier origin left are =
      let own = are.1 in (
        own.1,
        own.4,
        (none_of is_outward are.0 own.0 own.1 own.2 are.2).1,
        λ one among. are.3 one (subst (Among one) (sym own.2) (among_other one own.0 own.1 among)),
      )

  fits_first : (earlier : List Origin) (origin : Origin) (own : List Led) → AreLedTo parts earlier origin own
      → list_any is_outward own ≡ false → AreGood own → AreNamed (earlier ++ origin ∷ []) → (rest : List ℕ)
      → IsFirst earlier origin location rest → IsSafeAt location status request broken origin rest
  fits_first earlier origin own are inside good named rest is =
      is_safe earlier origin named rest is are.0 are.1 are.3
      (λ one among. good one (subst (Among one) (sym are.2) (among_one one are.0 are.1 among))) are.4
      (none_of is_outward own are.0 are.1 are.2 inside).1 (is_target (target_in rest)) refl

  pub leads_on : (hosts : List Origin) → AreNamed hosts → AllGood [] hosts
      → IsSafe location status request broken hosts
  leads_on hosts named =
      along location status request broken AllGood goes_next
      (λ earlier origin left are named rest is.
      let own = are.1 in
      fits_first earlier origin own.0 own.3 (none_of is_outward are.0 own.0 own.1 own.2 are.2).0
      (λ one among. are.3 one (subst (Among one) (sym own.2) (among_one one own.0 own.1 among))) named rest is)
      [] hosts refl named
