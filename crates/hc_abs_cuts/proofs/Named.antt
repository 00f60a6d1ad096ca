-- The file names that lead to an end with no path information, as code has them and as the plan has them.
use Rattle.hc_abs_cuts.proofs.Common.{◌≡◌, ◌∙◌, ℕ, List, [], ◌∷◌, ◌++◌, true, ◌&&◌, refl, sym, ap, subst, append-nil}
use Rattle.hc_abs_cuts.proofs.Common.{Automaton, accepts, Accepts, IsText, TextSet, WalkEnd, End}
use Rattle.std.proofs.Common.{eqb-true, nat_eq}
use Rattle.std.proofs.lemmas.Bool.{and_from, and_parts, eq-eqb}
use Rattle.hc_base.specs.Bytes.{slash}
use Rattle.hc_base.specs.Paths.{is_slash}
use Rattle.hc_dfa.specs.Built.{product_of}
use Rattle.hc_dfa.specs.Fronts.{behind_text}
use Rattle.hc_dfa.specs.declared.products.Keep.TheVariants.{Both}
use Rattle.hc_model.specs.World.{root}
use Rattle.hc_pat_lang.specs.Sets.{AcceptsOnly}
use Rattle.hc_rw_sets.specs.Made.{MadeOf}
use Rattle.hc_abs_pass.proofs.Alike.{IsEnd}
use Rattle.hc_abs_pass.proofs.Components.{both_ways, cut, cut_at, none_left}
use Rattle.hc_abs_pass.specs.Walking.{rests_of}
use Rattle.hc_abs_pass.specs.Walks.{behind_component, component, is_empty}
use Rattle.hc_abs_pass.specs.declared.walk_ends.Behind.{Behind}
use Rattle.hc_abs_pass.specs.Again.{exactly}
use Rattle.hc_abs_cuts.specs.Exact.{ArePlain, exact_of, exact_rests}

-- ---- texts without a slash

none_behind : (text : List ℕ) → is_empty (behind_component (component text)) ≡ true
none_behind text =
    ap is_empty (ap behind_component (sym (append-nil (component text))) ∙ (cut_at (component text) [] (cut text).plain refl).1)

alone : (text : List ℕ) → is_empty (behind_component text) ≡ true → text ≡ component text
alone text none =
    (cut text).whole ∙ ap (λ rest. component text ++ rest) (none_left (behind_component text) none)
    ∙ append-nil (component text)

pub plain_is : (every plain : Automaton) → Accepts every (λ text. true)
    → AcceptsOnly (MadeOf component (accepts every)) plain → ArePlain plain
plain_is every plain all is text bytes = both_ways _ _
    (λ accepted.
    let of = (is text bytes).0 accepted in
    subst (λ text. is_empty (behind_component text) ≡ true) (sym of.3) (none_behind of.0))
    (λ none. (is text bytes).1 (text, bytes, all text bytes, alone text none))

-- ---- what follows the front of an end

pub exact_rests_are : (behind : Behind) (all plain made : Automaton) → Accepts all (rests_of behind) → ArePlain plain
    → Accepts made (product_of Both all plain) → Accepts made (exact_rests behind)
exact_rests_are behind all plain made are_all are_plain is text bytes =
    is text bytes ∙ ap (λ one. one && accepts plain text) (are_all text bytes)
    ∙ ap (λ other. rests_of behind text && other) (are_plain text bytes)

front_alike : (front : List ℕ) (one other : TextSet) → ((x : List ℕ) → IsText x → one x ≡ other x) → (x : List ℕ)
    → IsText x → behind_text front one x ≡ behind_text front other x
front_alike [] one other alike x bytes = alike x bytes
front_alike (own ∷ front) one other alike [] bytes = refl
front_alike (own ∷ front) one other alike (b ∷ x) bytes =
    ap (λ rest. nat_eq b own && rest) (front_alike front one other alike x bytes.1)

pub exact_set_is : (end : End) (lent : List ℕ) (own made : Automaton) → lent ≡ end.front
    → Accepts own (exact_rests end.behind) → Accepts made (behind_text lent (accepts own)) → Accepts made (exact_of end)
exact_set_is end lent own made same are is text bytes =
    is text bytes ∙ ap (λ front. behind_text front (accepts own) text) same
    ∙ front_alike end.front (accepts own) (exact_rests end.behind) are text bytes

-- ---- the end of the plan

behind_to : (front : List ℕ) (set : TextSet) (x : List ℕ) → behind_text front set x ≡ true
    → (tail : List ℕ) × (x ≡ front ++ tail) × (set tail ≡ true)
behind_to [] set x is = (x, refl, is)
behind_to (own ∷ front) set [] is = absurd (let none = is in cc)
behind_to (own ∷ front) set (b ∷ x) is =
    let parts = and_parts (nat_eq b own) (behind_text front set x) is in
    let of = behind_to front set x parts.1 in (
      of.0,
      ap (λ first. first ∷ x) (eqb-true b own parts.0) ∙ ap (λ rest. own ∷ rest) of.1,
      of.2,
    )

behind_from : (front : List ℕ) (set : TextSet) (tail : List ℕ) → set tail ≡ true
    → behind_text front set (front ++ tail) ≡ true
behind_from [] set tail is = is
behind_from (own ∷ front) set tail is =
    and_from (nat_eq own own) (behind_text front set (front ++ tail)) (eq-eqb own own refl)
    (behind_from front set tail is)

module _ (code : End) (end : WalkEnd) (is_end : IsEnd root code end) where
  to_exact : (x : List ℕ) → exactly end x ≡ true → exact_of code x ≡ true
  to_exact [] is = absurd (let none = is in cc)
  to_exact (b ∷ bs) is =
      let slashed = and_parts (is_slash b) (end.rests bs && is_empty (end.info bs)) is in
      let both = and_parts (end.rests bs) (is_empty (end.info bs)) slashed.1 in
      let of = is_end.to bs both.0 in
      let none = ap is_empty (sym (ap end.info of.1 ∙ is_end.info of.0 of.2)) ∙ both.1 in
      let whole : b ∷ bs ≡ code.front ++ of.0 =
      ap (λ b. b ∷ bs) (eqb-true b slash slashed.0) ∙ ap (λ bs. slash ∷ bs) of.1
      ∙ ap (λ front. front ++ of.0) (sym is_end.front) in
      subst (λ x. exact_of code x ≡ true) (sym whole)
      (behind_from code.front (exact_rests code.behind) of.0
      (and_from (rests_of code.behind of.0) (is_empty (behind_component of.0)) of.2 none))

  from_exact : (x : List ℕ) → exact_of code x ≡ true → exactly end x ≡ true
  from_exact x is =
      let of = behind_to code.front (exact_rests code.behind) x is in
      let both = and_parts (rests_of code.behind of.0) (is_empty (behind_component of.0)) of.2 in
      let own = is_end.own ++ of.0 in
      subst (λ x. exactly end x ≡ true) (sym (of.1 ∙ ap (λ front. front ++ of.0) is_end.front))
      (and_from (end.rests own) (is_empty (end.info own)) (is_end.from of.0 both.0)
      (ap is_empty (is_end.info of.0 both.0) ∙ both.1))

  pub exact_alike : (x : List ℕ) → exactly end x ≡ exact_of code x
  exact_alike x = both_ways _ _ (to_exact x) (from_exact x)
