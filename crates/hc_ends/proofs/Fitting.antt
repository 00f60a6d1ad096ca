-- A location leads to the first own server that it fits.
use Rattle.std.proofs.Common.{◌≡◌, ◌∙◌, inl, inr, ℕ, List, [], ◌∷◌, ◌++◌, ◌||◌, Bool, true, false, Option, Some, None}
use Rattle.std.proofs.Common.{refl, sym, ap, append_assoc, true≢false, is_some}
use Rattle.std.proofs.lemmas.Bool.{or_parts}
use Rattle.std.proofs.lemmas.List.Folds.{list_all-append, list_any-append}
use Rattle.std.specs.List.{list_all, list_any}
use Rattle.std.specs.Prelude.{option_map, unwrap_or}
use Rattle.hc_follow.specs.Next.{behind, sent, sent_to}
use Rattle.hc_follow.specs.declared.origin.Origin.{Origin}
use Rattle.hc_forms.specs.Forms.{is_host_byte}
use Rattle.hc_model.specs.declared.outcome.Outcome.TheVariants as outcome
use Rattle.hc_model.specs.declared.request.Request.{Request}
use Rattle.hc_plan.proofs.Common.{and_left}
use Rattle.hc_sent.proofs.Reading.{led_on}
use Rattle.hc_sent.specs.Parts.{Sent}
use Rattle.hc_sent.specs.Reading.{AreNamed}
use Rattle.hc_sent.specs.Ways.{AreReachedBy, AreReachedFrom, IsFirst, fits_any}
use Rattle.hc_sent.specs.declared.leading.Reach.{Reach}
use Rattle.hc_sent.specs.declared.parts.Part.{Part}
use Rattle.hc_ends.specs.Breaking.{broken_then}
use Rattle.hc_ends.specs.Chains.{is_own}

-- ---- lists of servers

abbrev pub has_name : Origin → Bool
has_name own = list_all is_host_byte own.host

module _ (earlier : List Origin) (origin : Origin) (left : List Origin)
    (named : AreNamed (earlier ++ origin ∷ left)) where
  named_on : AreNamed ((earlier ++ origin ∷ []) ++ left)
  named_on = ap (list_all has_name) (append_assoc earlier (origin ∷ []) left) ∙ named

  named_so_far : AreNamed (earlier ++ origin ∷ [])
  named_so_far =
      and_left (list_all has_name (earlier ++ origin ∷ [])) (list_all has_name left)
      (sym (list_all-append has_name (earlier ++ origin ∷ []) left) ∙ named_on)

fits_none : (earlier : List Origin) (origin : Origin) (location : List ℕ) → fits_any earlier location ≡ false
    → behind origin location ≡ None → fits_any (earlier ++ origin ∷ []) location ≡ false
fits_none earlier origin location none there =
    list_any-append (λ own. is_some (behind own location)) earlier (origin ∷ [])
    ∙ ap (λ fits. fits || (is_some (behind origin location) || false)) none
    ∙ ap (λ found. is_some found || false) there

-- A test that none of all passes is passed by none of a part.
pub none_of : {A : Type 0} (test : A → Bool) (all one other : List A) → all ≡ one ++ other
    → list_any test all ≡ false → (list_any test one ≡ false) × (list_any test other ≡ false)
none_of test all one other are none =
    or_parts (list_any test one) (list_any test other)
    (sym (list_any-append test one other) ∙ ap (list_any test) (sym are) ∙ none)

-- ---- server by server

module _ (location : List ℕ) (status : ℕ) (request : Request) (broken : Request → Bool) where
  -- What follows doesn't break the claim, as far as these servers are asked; and where it is sent to this one.
  abbrev pub IsSafe : List Origin → Type 0
  IsSafe left = broken_then broken (outcome.Redirect status location) (sent_to request status left location) ≡ false

  abbrev pub IsSafeAt : Origin → List ℕ → Type 0
  IsSafeAt origin rest =
      broken_then broken (outcome.Redirect status location) (sent request status origin rest) ≡ false

  -- What is known of the servers that are left, behind those before them, goes on to the next one, and makes the first
  -- one safe that the location fits.
  module _ (Are : List Origin → List Origin → Type 0)
      (next : (earlier : List Origin) (origin : Origin) (left : List Origin) → Are earlier (origin ∷ left)
      → Are (earlier ++ origin ∷ []) left)
      (fits : (earlier : List Origin) (origin : Origin) (left : List Origin) → Are earlier (origin ∷ left)
      → AreNamed (earlier ++ origin ∷ []) → (rest : List ℕ) → IsFirst earlier origin location rest
      → IsSafeAt origin rest) where
    pub along : (earlier left : List Origin) → fits_any earlier location ≡ false → AreNamed (earlier ++ left)
        → Are earlier left → IsSafe left
    along earlier [] none named are = refl
    along earlier (origin ∷ left) none named are =
        by (behind origin location) refl (along (earlier ++ origin ∷ []) left)
      where
        by : (found : Option (List ℕ)) → behind origin location ≡ found
            → (fits_any (earlier ++ origin ∷ []) location ≡ false → AreNamed ((earlier ++ origin ∷ []) ++ left)
            → Are (earlier ++ origin ∷ []) left → IsSafe left)
            → broken_then broken (outcome.Redirect status location)
            (unwrap_or (option_map (sent request status origin) found) (sent_to request status left location)) ≡ false
        by None there more =
            more (fits_none earlier origin location none there) (named_on earlier origin left named)
            (next earlier origin left are)
        by (Some rest) there more =
            fits earlier origin left are (named_so_far earlier origin left named) rest (none, there)

-- ---- no own server

module _ (parts : List Part) (location : List ℕ) (is_sent : Sent parts location) where
  abbrev NoneOwn : List Origin → List Origin → Type 0
  NoneOwn earlier left =
      (reached : List Reach) × AreReachedFrom parts earlier left reached × (list_any is_own reached ≡ false)

  never : (earlier : List Origin) (origin : Origin) (own : List Reach) → AreReachedBy parts earlier origin own
      → list_any is_own own ≡ false → AreNamed (earlier ++ origin ∷ []) → (rest : List ℕ)
      → IsFirst earlier origin location rest → ⊥
  never earlier origin own (inl found) away named rest is = true≢false (ap (list_any is_own) (sym found.2) ∙ away)
  never earlier origin own (inr none) away named rest is =
      let bare = led_on parts earlier origin location rest named is_sent is in none.0 bare.0 bare.1

  -- What is sent to none doesn't break the claim.
  pub none_reached : (status : ℕ) (request : Request) (broken : Request → Bool) (hosts : List Origin) → AreNamed hosts
      → NoneOwn [] hosts → IsSafe location status request broken hosts
  none_reached status request broken hosts named =
      along location status request broken NoneOwn
      (λ earlier origin left are.
      let own = are.1 in (own.1, own.4, (none_of is_own are.0 own.0 own.1 own.2 are.2).1))
      (λ earlier origin left are named rest is.
      let own = are.1 in
      absurd (never earlier origin own.0 own.3 (none_of is_own are.0 own.0 own.1 own.2 are.2).0 named rest is))
      [] hosts refl named
