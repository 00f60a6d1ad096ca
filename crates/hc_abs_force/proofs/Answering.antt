-- What code finds for what a section asks are the branches of its plan.
use Rattle.std.proofs.Common.{◌≡◌, ◌∙◌, ℕ, List, [], ◌∷◌, ◌++◌, Bool, true, false, not, Option, None, Some, inl, refl, sym}
use Rattle.std.proofs.Common.{ap, append-nil, subst}
use Rattle.hc_dfa.specs.Automata.{Automaton, accepts}
use Rattle.hc_dfa.specs.Built.{Accepts}
use Rattle.hc_dfa.specs.Texts.{TextSet}
use Rattle.hc_merge.specs.Reaching.{Chain, chained}
use Rattle.hc_model.specs.declared.expression.Expr.{Expr}
use Rattle.hc_plan.proofs.Coded.{Follows, both_fit, end_fits, put_down_fits, take_up_fits, test_fits}
use Rattle.hc_plan.specs.Branches.{Branch, others, without_texts}
use Rattle.hc_plan.specs.Coded.{AllFit, AreBranches}
use Rattle.hc_plan.specs.Hands.{parts_of}
use Rattle.hc_plan.specs.Plan.{done, put_down, test}
use Rattle.hc_plan.specs.Slots.{Slot}
use Rattle.hc_plan.specs.States.{AbsState, Given, open_slot, whole, with_text}
use Rattle.hc_plan.specs.Texts.{Three}
use Rattle.hc_plan.specs.Ways.{Stands, on}
use Rattle.hc_plan.specs.declared.hand.Element.{Element}
use Rattle.hc_plan.specs.declared.hand.Element.TheVariants as element
use Rattle.hc_plan.specs.declared.hand.Way.{Way}
use Rattle.hc_plan.specs.declared.storing.Tied.{Tied}
use Rattle.hc_abs_rw.specs.Templates.{main, slot_item}
use Rattle.hc_abs_rw.specs.Trials.{AreWays}
use Rattle.hc_abs_rw.specs.declared.ways.Ways.{Ways}
use Rattle.hc_abs_view.specs.Viewing.{AreViewed, SeenAt, ViewedFits}
use Rattle.hc_abs_view.specs.declared.scene.Scene.{Scene as LentScene}
use Rattle.hc_abs_view.specs.declared.viewing.Viewed.{Viewed}
use Rattle.hc_abs_force.specs.Asking.{holding}
use Rattle.hc_abs_force.specs.Marking.{AddsLeft, AnswersFor, AnswersSlot, AreMarked, IsLeft, IsMarked, IsMarkedAs, MarkFits}
use Rattle.hc_abs_force.specs.Marking.{tied_on}
use Rattle.hc_abs_force.specs.declared.forcing.Forced.{Forced}

-- ---- the ways of a test

module _ (one : Forced) (is : Bool) (before after : List Forced) where
  pub adds_none : (way : Option Way) → way ≡ None → after ≡ before → AddsLeft one is way before after
  adds_none way none same =
      subst (λ way. AddsLeft one is way before after) (sym none) ([], same ∙ sym (append-nil before), refl)

  pub adds_one : (way : Option Way) (own : Way) (left : Forced) → way ≡ Some own → after ≡ before ++ left ∷ []
      → IsMarked one.marks.items (tied_on one own) is left → AddsLeft one is way before after
  adds_one way own left some same is_left =
      subst (λ way. AddsLeft one is way before after) (sym some) (left ∷ [], same, (left, refl, is_left))

-- ---- states

-- What is seen stays so where a test narrows slots.
module _ (scene : LentScene) (given : Three (ℕ → Given)) where
  pub seen_bare : (tied : Tied) (state : AbsState) → SeenAt scene given tied state
      → SeenAt scene given tied (without_texts state)
  seen_bare tied state seen = record {
    cell = seen.cell;
    ties = seen.ties;
    holds = seen.holds;
    query = seen.query;
    printed = seen.printed;
  }

  -- A mark at once.
  pub put_fits : (one : Forced) (is : Bool) (marked : Forced) (state : AbsState) → SeenAt scene given one.tied state
      → IsMarked one.marks.items one.tied is marked
      → AreBranches (MarkFits scene given one.marks.items) (put_down (done is)) state (marked ∷ [])
  put_fits one is marked state seen are =
      put_down_fits (MarkFits scene given one.marks.items) state (done is) (marked ∷ [])
      (end_fits (MarkFits scene given one.marks.items) (without_texts state) is marked (record {
        seen = subst (λ tied. SeenAt scene given tied (without_texts state)) (sym are.0)
            (seen_bare one.tied state seen);
        more = are.1;
      }))

-- ---- a test of the text of a slot

module _ (slot : Slot) (own : Automaton) (one : Forced) (scene : LentScene) (set : TextSet) (is : Accepts own set)
    (given : Three (ℕ → Given)) (state : AbsState) (seen : SeenAt scene given one.tied state) where
  abbrev elements : List Element
  elements = element.Open slot 0 ∷ []

  abbrev held_up : AbsState
  held_up = with_text state main (whole (parts_of elements))

  stands : Stands one.tied.cell one.tied.ties elements 0 None held_up main
  stands = record {
    holds = seen.cell;
    tied = seen.ties;
    hand = record { made = refl; behind = refl; lies = inl (λ x bytes. refl) };
  }

  way_follows : (asked : TextSet) (mark : Bool) (way : Option Way) (found : List Forced) → IsLeft one mark way found
      → Follows (MarkFits scene given one.marks.items) one.tied.cell one.tied.ties elements 0 None held_up main stands
      (λ now. now) asked (put_down (done mark)) way found
  way_follows asked mark None found left = left
  way_follows asked mark (Some way) found left = λ now stands keeps.
      subst (AreBranches (MarkFits scene given one.marks.items) (put_down (done mark)) now) (sym left.1)
      (put_fits scene given (record { tied = tied_on one way; marks = one.marks }) mark left.0 now (record {
        cell = stands.holds;
        ties = stands.tied;
        holds = keeps.given ∙ seen.holds;
        query = seen.query;
        printed = keeps.printed ∙ seen.printed;
      }) left.2)

  slot_goes : (ways : Ways) (first rest : List Forced)
      → AreWays one.tied.cell one.tied.ties elements 0 None false (accepts own) ways
      → IsLeft one true ways.held first → IsLeft one false ways.failed rest
      → AreBranches (MarkFits scene given one.marks.items) (test main set (λ is. put_down (done is))) held_up
      (first ++ rest)
  slot_goes ways first rest are held failed =
      test_fits (MarkFits scene given one.marks.items) one.tied.cell one.tied.ties elements 0 None held_up main stands set
      (on true (accepts own)) (on false (accepts own)) (λ is. put_down (done is)) ways.held ways.failed first rest
      (λ x text. sym (is x text)) (λ x text. ap not (sym (is x text))) are.0 are.1
      (way_follows (others set) false ways.failed rest failed) (way_follows set true ways.held first held)

pub slot_adds : (slot : Slot) (own : Automaton) (one : Forced) (ways : Ways) (start mid found : List Forced)
    → AreWays one.tied.cell one.tied.ties (element.Open slot 0 ∷ []) 0 None false (accepts own) ways
    → start ≡ [] → AddsLeft one true ways.held start mid → AddsLeft one false ways.failed mid found
    → AnswersSlot slot own one found
slot_adds slot own one ways start mid found are none first rest scene set is given state seen =
    subst (AreBranches (MarkFits scene given one.marks.items) _ state)
    (sym (rest.1 ∙ ap (λ mid. mid ++ rest.0) (first.1 ∙ ap (λ start. start ++ first.0) none)))
    (take_up_fits (MarkFits scene given one.marks.items) state main (slot_item slot ∷ []) (open_slot slot 0 ∷ [])
    (test main set (λ is. put_down (done is))) (first.0 ++ rest.0) (open_slot slot 0, [], refl, refl, refl)
    (slot_goes slot own one scene set is given state seen ways first.0 rest.0 are first.2 rest.2))

-- ---- an expression

pub marked_more : (marks : List Bool) (before : List Viewed) (one : Viewed) (found later : List Forced) (marked : Forced)
    → AreMarked marks before found → later ≡ found ++ marked ∷ [] → IsMarkedAs marks one marked
    → AreMarked marks (before ++ one ∷ []) later
marked_more marks before one found later marked are same is =
    subst (AreMarked marks (before ++ one ∷ [])) (sym same)
    (both_fit (IsMarkedAs marks) before (one ∷ []) found (marked ∷ []) are (marked, [], refl, is, refl))

-- A mark for each branch.
module _ (scene : LentScene) (given : Three (ℕ → Given)) (marks : List Bool) where
  marks_fit : (viewed : List Viewed) (found : List Forced) (branches : List (Branch Bool))
      → AllFit (ViewedFits scene given) viewed branches → AreMarked marks viewed found
      → AllFit (MarkFits scene given marks) found branches
  marks_fit [] found branches fit are = subst (λ found. AllFit (MarkFits scene given marks) found branches) (sym are) fit
  marks_fit (one ∷ viewed) found branches fit are =
      subst (λ found. AllFit (MarkFits scene given marks) found branches) (sym are.2) (
        fit.0,
        fit.1,
        fit.2,
        record {
          seen = subst (λ tied. SeenAt scene given tied (fit.0).0) (sym are.3.0) fit.3.seen;
          more = are.3.1 ∙ ap (λ is. marks ++ is ∷ []) (sym fit.3.is);
        },
        marks_fit viewed are.1 fit.1 fit.4 are.4,
      )

pub held_fits : (scene : LentScene) (chain : Chain) (expr : Expr) (one : Forced) (viewed : List Viewed)
    (found : List Forced) → AreViewed scene chain expr one.tied viewed → AreMarked one.marks.items viewed found
    → AnswersFor scene (holding (chained chain expr)) one found
held_fits scene chain expr one viewed found are marked given state seen =
    let is = are given state seen in
    (is.0, is.1, marks_fit scene given one.marks.items viewed found is.0 is.2 marked)
