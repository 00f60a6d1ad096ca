-- The sides of a comparison are the branches of its plan.
use Rattle.std.proofs.Common.{◌≡◌, ◌∙◌, ℕ, List, [], ◌++◌, Bool, true, false, not, Option, Some, refl, sym, ap}
use Rattle.std.proofs.Common.{subst, inl, inr, true≢false}
use Rattle.std.proofs.lemmas.Slice.Eq.{bytes_eq-Decides}
use Rattle.std.specs.Str.{bytes_eq}
use Rattle.hc_abs_rw.specs.Looks.{KnownAs, May, NoneKnown}
use Rattle.hc_abs_rw.specs.Templates.{main, second}
use Rattle.hc_cells.specs.Cells.{Sets}
use Rattle.hc_dfa.specs.Automata.{accepts}
use Rattle.hc_dfa.specs.Texts.{TextSet}
use Rattle.hc_model.specs.declared.template.Piece.{Piece}
use Rattle.hc_plan.proofs.Coded.{both_fit, put_down_fits, take_up_fits}
use Rattle.hc_plan.specs.Branches.{Branch, Branches, IsLiteral, IsLiteralAt, MayCompare, Where, without_texts}
use Rattle.hc_plan.specs.Coded.{AllFit, AreBranches}
use Rattle.hc_plan.specs.Hands.{parts_of}
use Rattle.hc_plan.specs.Plan.{Plan, compare, put_down, take_up, test}
use Rattle.hc_plan.specs.Running.{compares}
use Rattle.hc_plan.specs.States.{AbsState, Given, Has, ReadNow, whole, with_text}
use Rattle.hc_plan.specs.Texts.{Key, Three}
use Rattle.hc_plan.specs.Ways.{on}
use Rattle.hc_plan.specs.declared.hand.Element.{Element}
use Rattle.hc_plan.specs.declared.storing.Tied.{Tied}
use Rattle.hc_rw_eval.specs.Conditions.{counted}
use Rattle.hc_abs_view.proofs.Pieces.{pieces_are}
use Rattle.hc_abs_view.proofs.Testing.{seen_with_text, text_tested}
use Rattle.hc_abs_view.specs.Jumping.{asked_ways}
use Rattle.hc_abs_view.specs.Seen.{AreApart, AreCompared, AreComparedBy, ArePiecesOf, AreSides, FollowsOn, IsAnswer}
use Rattle.hc_abs_view.specs.Seen.{IsTestedByText, MayAgree, PlacedFits, cell_if, picked}
use Rattle.hc_abs_view.specs.Trees.{same}
use Rattle.hc_abs_view.specs.Viewing.{HoldsQuery, SeenAt, scene_of}
use Rattle.hc_abs_pass.specs.Views.{view_items}
use Rattle.hc_abs_view.specs.declared.jump.Target.{Target}
use Rattle.hc_abs_view.specs.declared.placed.Placed.{Placed}
use Rattle.hc_abs_view.specs.declared.scene.Scene.{Scene}
use Rattle.hc_abs_view.specs.declared.sides.Sides.{Sides}

-- ---- a comparison, as code makes it

module _ {A B : Type 0} (Fit : B → Branch A → Type 0) (state : AbsState) (one other : Key) (asked : Bool)
    (plan : Bool → Plan A) where
  pub second_literal : (y : List ℕ) (found : List B) → IsLiteralAt state other y
      → AreBranches Fit (test one (λ x. compares asked x y) plan) state found
      → AreBranches Fit (compare one other asked plan) state found
  unfolding Branches
  second_literal y found literal are = (are.0, inl (y, literal, are.1), are.2)

  pub first_literal : (x : List ℕ) (found : List B) → ((y : List ℕ) → IsLiteralAt state other y → ⊥)
      → IsLiteralAt state one x → AreBranches Fit (test other (compares asked x) plan) state found
      → AreBranches Fit (compare one other asked plan) state found
  unfolding Branches
  first_literal x found none literal are = (are.0, inr (none, inl (x, literal, are.1)), are.2)

  -- What follows where the texts may compare so.
  abbrev pub FollowsWhere : Bool → List B → Type 0
  FollowsWhere is found =
      (branches : List (Branch A)) × Where (MayCompare state one other asked is) (Branches (plan is) state) branches
      × AllFit Fit found branches

  pub no_literal : (first rest : List B) → ((y : List ℕ) → IsLiteralAt state other y → ⊥)
      → ((x : List ℕ) → IsLiteralAt state one x → ⊥) → FollowsWhere true first → FollowsWhere false rest
      → AreBranches Fit (compare one other asked plan) state (first ++ rest)
  unfolding Branches
  no_literal first rest none_other none_one held failed = (
    held.0 ++ failed.0,
    inr (none_other, inr (none_one, (held.0, failed.0, refl, held.1, failed.1))),
    both_fit Fit first rest held.0 failed.0 held.2 failed.2,
  )

  pub follows_by : (P : Type 0) (is answer : Bool) (found : List B) → IsAnswer P answer
      → (P → MayCompare state one other asked is) → (MayCompare state one other asked is → P)
      → (answer ≡ true → AreBranches Fit (plan is) state found) → (answer ≡ false → found ≡ []) → FollowsWhere is found
  unfolding Branches
  follows_by P is true found so to from on off =
      let are = on refl in (are.0, inl (to so, are.1), are.2)
  follows_by P is false found so to from on off =
      ([], inr (λ may. so (from may), refl), subst (λ found. AllFit Fit found []) (sym (off refl)) refl)

-- ---- what is compared

compares_held : (negated : Bool) (x y : List ℕ) (found : Bool) → found ≡ bytes_eq x y
    → compares (not negated) x y ≡ on (not negated) (λ x. found) x
compares_held true x y found is = ap not (sym is)
compares_held false x y found is = sym is

not_not : (v : Bool) → not (not v) ≡ v
not_not true = refl
not_not false = refl

compares_failed : (negated : Bool) (x y : List ℕ) (found : Bool) → found ≡ bytes_eq x y
    → not (compares (not negated) x y) ≡ on negated (λ x. found) x
compares_failed true x y found is = not_not (bytes_eq x y) ∙ sym is
compares_failed false x y found is = ap not (sym is)

on_at : (negated : Bool) (set : TextSet) (x : List ℕ) → on negated (λ y. set x) x ≡ on negated set x
on_at true set x = refl
on_at false set x = refl

bytes_back : (x y : List ℕ) → bytes_eq x y ≡ bytes_eq y x
bytes_back x y = by (bytes_eq x y) (bytes_eq y x) refl refl
  where
    turn : (x y : List ℕ) → bytes_eq x y ≡ true → bytes_eq y x ≡ true
    turn x y is = (bytes_eq-Decides y x).1 (sym ((bytes_eq-Decides x y).0 is))

    by : (v w : Bool) → bytes_eq x y ≡ v → bytes_eq y x ≡ w → v ≡ w
    by true true one other = refl
    by true false one other = absurd (true≢false (sym (turn x y one) ∙ other))
    by false true one other = absurd (true≢false (sym (turn y x other) ∙ one))
    by false false one other = refl

module _ (scene : Scene) (tied : Tied) (left right : List Piece) (ones others : List Element) (negated : Bool)
    (sides : Sides) (are_ones : ArePiecesOf scene left ones) (are_others : ArePiecesOf scene right others)
    (given : Three (ℕ → Given)) (state : AbsState) (plan : Bool → Plan Target) (first rest : List Placed)
    (seen : SeenAt scene given tied state) (held : FollowsOn scene given tied.ties sides.held (plan true) first)
    (failed : FollowsOn scene given tied.ties sides.failed (plan false) rest) where
  abbrev Fit : Placed → Branch Target → Type 0
  Fit = PlacedFits scene given

  abbrev With : AbsState
  With = with_text state main (whole (parts_of ones))

  abbrev Now : AbsState
  Now = with_text With second (whole (parts_of others))

  abbrev Goes : Bool → Plan Target
  Goes is = put_down (plan is)

  seen_with : SeenAt scene given tied With
  seen_with = seen_with_text scene given tied state main ones seen

  seen_now : SeenAt scene given tied Now
  seen_now = seen_with_text scene given tied With second others seen_with

  abbrev Compared : Type 0
  Compared = AreBranches Fit (compare main second (not negated) Goes) Now (first ++ rest)

  -- Both texts in hand.
  in_hand : Compared → AreBranches Fit (asked_ways (scene_of scene) (same left right) negated plan) state (first ++ rest)
  in_hand are =
      take_up_fits Fit state main (view_items (scene_of scene) left) (parts_of ones)
      (take_up second (view_items (scene_of scene) right) (compare main second (not negated) Goes)) (first ++ rest)
      (pieces_are scene state (subst (HoldsQuery scene.query) (sym seen.holds) seen.query) seen.printed left ones are_ones)
      (take_up_fits Fit With second (view_items (scene_of scene) right) (parts_of others)
      (compare main second (not negated) Goes) (first ++ rest)
      (pieces_are scene With (subst (HoldsQuery scene.query) (sym seen.holds) seen.query) seen.printed right others
      are_others) are)

  -- ---- literals

  literal : (elements : List Element) (text : List ℕ) → KnownAs tied.cell elements text
      → IsLiteral Now (whole (parts_of elements)) text
  literal elements text known =
      (known.0, text, subst (λ cell. ReadNow cell (parts_of elements) known.0) (sym seen.cell) known.1, known.2, refl)

  no_literals : (elements : List Element) → NoneKnown tied.cell elements → (x : List ℕ)
      → IsLiteral Now (whole (parts_of elements)) x → ⊥
  no_literals elements none x is =
      none x (
        is.0,
        subst (λ cell. ReadNow cell (parts_of elements) is.0) seen.cell is.2,
        is.3 ∙ ap Some (sym is.4),
      )

  by_second : (text : List ℕ) → KnownAs tied.cell others text → IsTestedByText tied ones negated text sides → Compared
  by_second text known is =
      let set = accepts is.0 in
      second_literal Fit Now main second (not negated) Goes text (first ++ rest) (literal others text known)
      (text_tested scene given tied Now seen_now ones main refl (λ x. compares (not negated) x text) set negated plan sides
      first rest (λ x bytes. compares_held negated x text (set x) (is.1 x bytes) ∙ on_at (not negated) set x)
      (λ x bytes. compares_failed negated x text (set x) (is.1 x bytes) ∙ on_at negated set x) is.2 held failed)

  by_first : (text : List ℕ) → NoneKnown tied.cell others → KnownAs tied.cell ones text
      → IsTestedByText tied others negated text sides → Compared
  by_first text none known is =
      let set = accepts is.0 in
      first_literal Fit Now main second (not negated) Goes text (first ++ rest) (no_literals others none)
      (literal ones text known)
      (text_tested scene given tied Now seen_now others second refl (compares (not negated) text) set negated plan sides
      first rest
      (λ x bytes. compares_held negated text x (set x) (is.1 x bytes ∙ bytes_back x text) ∙ off_at (not negated) set text x)
      (λ x bytes. compares_failed negated text x (set x) (is.1 x bytes ∙ bytes_back x text) ∙ off_at negated set text x) is.2
      held failed)
    where
      off_at : (negated : Bool) (set : TextSet) (y x : List ℕ) → on negated (λ z. set x) y ≡ on negated set x
      off_at true set y x = refl
      off_at false set y x = refl

  -- ---- no literal

  abbrev Agree : Bool → Type 0
  Agree is = MayAgree (May tied.cell ones) (May tied.cell others) is

  abbrev Has_now : List Element → List ℕ → Type 0
  Has_now elements x = Has Now.cell (whole (parts_of elements)) x

  to_now : (elements : List Element) (x : List ℕ) → May tied.cell elements x → Has_now elements x
  to_now elements x = subst (λ cell. Has cell (whole (parts_of elements)) x) (sym seen.cell)

  from_now : (elements : List Element) (x : List ℕ) → Has_now elements x → May tied.cell elements x
  from_now elements x = subst (λ cell. Has cell (whole (parts_of elements)) x) seen.cell

  may : (is at : Bool) → ((x y : List ℕ) → bytes_eq x y ≡ is → compares (not negated) x y ≡ at)
      → Agree is → MayCompare Now main second (not negated) at
  may is at so agree =
      (agree.0, agree.1, to_now ones agree.0 agree.2, to_now others agree.1 agree.3, so agree.0 agree.1 agree.4)

  back : (is at : Bool) → ((x y : List ℕ) → compares (not negated) x y ≡ at → bytes_eq x y ≡ is)
      → MayCompare Now main second (not negated) at → Agree is
  back is at so compared = (
    compared.0,
    compared.1,
    from_now ones compared.0 compared.2,
    from_now others compared.1 compared.3,
    so compared.0 compared.1 compared.4,
  )

  -- On a side nothing is narrowed.
  side_on : (plan : Plan Target) (answer : Bool) (cell : Option Sets) (found : List Placed)
      → cell ≡ cell_if answer tied.cell → FollowsOn scene given tied.ties cell plan found → answer ≡ true
      → AreBranches Fit (put_down plan) Now found
  side_on plan answer cell found is follows so =
      put_down_fits Fit Now plan found
      (subst (λ cell. FollowsOn scene given tied.ties cell plan found) (is ∙ ap (λ at. cell_if at tied.cell) so) follows
      (without_texts Now) (record {
        cell = seen_now.cell;
        ties = seen_now.ties;
        holds = seen_now.holds;
        query = seen_now.query;
        printed = seen_now.printed;
      }) refl)

  side_off : (plan : Plan Target) (answer : Bool) (cell : Option Sets) (found : List Placed)
      → cell ≡ cell_if answer tied.cell → FollowsOn scene given tied.ties cell plan found → answer ≡ false → found ≡ []
  side_off plan answer cell found is follows so =
      subst (λ cell. FollowsOn scene given tied.ties cell plan found) (is ∙ ap (λ at. cell_if at tied.cell) so) follows

  forth : (neg at : Bool) (x y : List ℕ) → bytes_eq x y ≡ counted neg at → compares (not neg) x y ≡ at
  forth true at x y is = ap not is ∙ not_not at
  forth false at x y is = is

  backward : (neg at : Bool) (x y : List ℕ) → compares (not neg) x y ≡ at → bytes_eq x y ≡ counted neg at
  backward true at x y is = sym (not_not (bytes_eq x y)) ∙ ap not is
  backward false at x y is = is

  answer_held : (neg equal differ : Bool) → IsAnswer (Agree true) equal → IsAnswer (Agree false) differ
      → IsAnswer (Agree (counted neg true)) (picked neg equal differ)
  answer_held true equal differ is other = other
  answer_held false equal differ is other = is

  answer_failed : (neg equal differ : Bool) → IsAnswer (Agree true) equal → IsAnswer (Agree false) differ
      → IsAnswer (Agree (counted neg false)) (picked neg differ equal)
  answer_failed true equal differ is other = is
  answer_failed false equal differ is other = other

  by_apart : NoneKnown tied.cell others → NoneKnown tied.cell ones → AreApart tied ones others negated sides → Compared
  by_apart none_others none_ones apart =
      let equal = apart.0 in
      let differ = apart.1 in
      no_literal Fit Now main second (not negated) Goes first rest (no_literals others none_others)
      (no_literals ones none_ones)
      (follows_by Fit Now main second (not negated) Goes (Agree (counted negated true)) true (picked negated equal differ)
      first (answer_held negated equal differ apart.2 apart.3) (may (counted negated true) true (forth negated true))
      (back (counted negated true) true (backward negated true))
      (side_on (plan true) (picked negated equal differ) sides.held first apart.4 held)
      (side_off (plan true) (picked negated equal differ) sides.held first apart.4 held))
      (follows_by Fit Now main second (not negated) Goes (Agree (counted negated false)) false
      (picked negated differ equal) rest (answer_failed negated equal differ apart.2 apart.3)
      (may (counted negated false) false (forth negated false)) (back (counted negated false) false (backward negated false))
      (side_on (plan false) (picked negated differ equal) sides.failed rest apart.5 failed)
      (side_off (plan false) (picked negated differ equal) sides.failed rest apart.5 failed))

  compared_by : NoneKnown tied.cell others → AreComparedBy tied ones others negated sides → Compared
  compared_by none (inl known) = by_first known.0 none known.1 known.2
  compared_by none (inr apart) = by_apart none apart.0 apart.1

  compared_so : AreCompared tied ones others negated sides → Compared
  compared_so (inl known) = by_second known.0 known.1 known.2
  compared_so (inr other) = compared_by other.0 other.1

pub compared_as : (scene : Scene) (tied : Tied) (left right : List Piece) (ones others : List Element) (negated : Bool)
    (sides : Sides) → ArePiecesOf scene left ones → ArePiecesOf scene right others
    → AreCompared tied ones others negated sides
    → AreSides scene (asked_ways (scene_of scene) (same left right) negated) tied sides
compared_as scene tied left right ones others negated sides are_ones are_others are = λ given state plan first rest seen held failed.
    in_hand scene tied left right ones others negated sides are_ones are_others given state plan first rest seen held failed
    (compared_so scene tied left right ones others negated sides are_ones are_others given state plan first rest seen held
    failed are)
