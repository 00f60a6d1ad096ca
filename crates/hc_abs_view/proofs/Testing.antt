-- The sides of a test are the branches of its plan.
use Rattle.std.proofs.Common.{◌≡◌, ◌∙◌, ℕ, List, [], ◌++◌, Bool, true, false, not, Option, None, Some, refl, sym, ap}
use Rattle.std.proofs.Common.{subst, inl, append-nil}
use Rattle.hc_abs_rw.proofs.Trials.{apart_on, asked_on}
use Rattle.hc_abs_rw.specs.Conditions.{counted_set}
use Rattle.hc_abs_rw.specs.Templates.{main}
use Rattle.hc_dfa.specs.Texts.{IsText, TextSet}
use Rattle.hc_model.specs.declared.template.Piece.{Piece}
use Rattle.hc_plan.proofs.Coded.{Follows, put_down_fits, take_up_fits, test_fits}
use Rattle.hc_plan.specs.Branches.{Branch, others, without_texts}
use Rattle.hc_plan.specs.Coded.{AreBranches}
use Rattle.hc_plan.specs.Hands.{parts_of}
use Rattle.hc_plan.specs.Plan.{Plan, put_down, test}
use Rattle.hc_plan.specs.States.{AbsState, Given, whole, with_text}
use Rattle.hc_plan.specs.Texts.{Key, Three, pick}
use Rattle.hc_plan.specs.Ways.{Stands, on}
use Rattle.hc_plan.specs.declared.hand.Element.{Element}
use Rattle.hc_plan.specs.declared.hand.Way.{Way}
use Rattle.hc_plan.specs.declared.storing.Tied.{Tied}
use Rattle.hc_rw_eval.specs.Conditions.{counted}
use Rattle.hc_abs_view.proofs.Pieces.{pieces_are}
use Rattle.hc_abs_view.specs.Jumping.{asked_ways}
use Rattle.hc_abs_view.specs.Seen.{ArePiecesOf, AreSides, FollowsOn, IsTestedBy, PlacedFits, cell_in}
use Rattle.hc_abs_view.specs.Trees.{always}
use Rattle.hc_abs_view.specs.Viewing.{HoldsQuery, SeenAt, scene_of}
use Rattle.hc_abs_pass.specs.Views.{tested, view_items}
use Rattle.hc_abs_view.specs.declared.jump.Target.{Target}
use Rattle.hc_abs_view.specs.declared.placed.Placed.{Placed}
use Rattle.hc_abs_view.specs.declared.scene.Scene.{Scene}
use Rattle.hc_abs_view.specs.declared.sides.Sides.{Sides}

-- ---- a text in hand

module _ (scene : Scene) (given : Three (ℕ → Given)) (tied : Tied) (state : AbsState) (seen : SeenAt scene given tied state)
    (elements : List Element) (key : Key) (text : pick state.texts key ≡ whole (parts_of elements)) where
  abbrev Fit : Placed → Branch Target → Type 0
  Fit = PlacedFits scene given

  stands : Stands tied.cell tied.ties elements 0 None state key
  stands = record {
    holds = seen.cell;
    tied = seen.ties;
    hand = record {
      made = ap (λ own. own.parts) text;
      behind = ap (λ own. own.off) text;
      lies = inl (λ x bytes. ap (λ own. own.side x) text);
    };
  }

  after : (set : TextSet) (plan : Plan Target) (way : Option Way) (found : List Placed)
      → FollowsOn scene given tied.ties (cell_in way) plan found
      → Follows Fit tied.cell tied.ties elements 0 None state key stands (λ now. now) set (put_down plan) way found
  after set plan None found follows = follows
  after set plan (Some way) found follows = λ now left keeps.
      put_down_fits Fit now plan found
      (follows (without_texts now) (record {
        cell = left.holds;
        ties = left.tied;
        holds = keeps.given ∙ seen.holds;
        query = seen.query;
        printed = keeps.printed ∙ seen.printed;
      }) refl)

  -- A test that an automaton makes.
  pub text_tested : (asked found : TextSet) (negated : Bool) (plan : Bool → Plan Target) (sides : Sides)
      (first rest : List Placed) → ((x : List ℕ) → IsText x → asked x ≡ on (not negated) found x)
      → ((x : List ℕ) → IsText x → not (asked x) ≡ on negated found x) → IsTestedBy tied elements negated found sides
      → FollowsOn scene given tied.ties sides.held (plan true) first
      → FollowsOn scene given tied.ties sides.failed (plan false) rest
      → AreBranches Fit (test key asked (λ is. put_down (plan is))) state (first ++ rest)
  text_tested asked found negated plan sides first rest alike apart is held failed =
      let ways = is.0 in
      test_fits Fit tied.cell tied.ties elements 0 None state key stands asked (on (not negated) found) (on negated found)
      (λ is. put_down (plan is)) ways.held ways.failed first rest alike apart is.1.0 is.1.1
      (after (others asked) (plan false) ways.failed rest
      (subst (λ cell. FollowsOn scene given tied.ties cell (plan false) rest) (ap (λ sides. sides.failed) is.2) failed))
      (after asked (plan true) ways.held first
      (subst (λ cell. FollowsOn scene given tied.ties cell (plan true) first) (ap (λ sides. sides.held) is.2) held))

-- ---- a test

seen_with : (scene : Scene) (given : Three (ℕ → Given)) (tied : Tied) (state now : AbsState) → SeenAt scene given tied state
    → now.cell ≡ state.cell → now.ties ≡ state.ties → now.given ≡ state.given → now.printed ≡ state.printed
    → SeenAt scene given tied now
seen_with scene given tied state now seen cell ties held printed = record {
  cell = cell ∙ seen.cell;
  ties = ties ∙ seen.ties;
  holds = held ∙ seen.holds;
  query = seen.query;
  printed = printed ∙ seen.printed;
}

-- A text in hand changes nothing of what is seen.
pub seen_with_text : (scene : Scene) (given : Three (ℕ → Given)) (tied : Tied) (state : AbsState) (key : Key)
    (elements : List Element) → SeenAt scene given tied state
    → SeenAt scene given tied (with_text state key (whole (parts_of elements)))
seen_with_text scene given tied state key elements seen =
    seen_with scene given tied state (with_text state key (whole (parts_of elements))) seen refl refl refl refl

pub set_tested : (scene : Scene) (tied : Tied) (pieces : List Piece) (elements : List Element) (negated : Bool)
    (asked found : TextSet) (sides : Sides) → ArePiecesOf scene pieces elements
    → ((x : List ℕ) → IsText x → found x ≡ asked x) → IsTestedBy tied elements negated found sides
    → AreSides scene (tested (scene_of scene) pieces asked negated) tied sides
set_tested scene tied pieces elements negated asked found sides are means is given state plan first rest seen held failed =
    take_up_fits (PlacedFits scene given) state main (view_items (scene_of scene) pieces) (parts_of elements)
    (test main (counted_set negated asked) (λ is. put_down (plan is))) (first ++ rest)
    (pieces_are scene state (subst (HoldsQuery scene.query) (sym seen.holds) seen.query) seen.printed pieces elements are)
    (text_tested scene given tied (with_text state main (whole (parts_of elements)))
    (seen_with_text scene given tied state main elements seen) elements main refl (counted_set negated asked) found negated
    plan sides first rest (λ x text. asked_on negated asked found x (means x text))
    (λ x text. apart_on negated asked found x (means x text)) is held failed)

-- ---- what is always so

module _ (scene : Scene) (tied : Tied) (is negated : Bool) (sides : Sides) where
  abbrev Always : Type 0
  Always = AreSides scene (asked_ways (scene_of scene) (always is) negated) tied sides

  seen_down : (given : Three (ℕ → Given)) (state : AbsState) → SeenAt scene given tied state
      → SeenAt scene given tied (without_texts state)
  seen_down given state seen =
      seen_with scene given tied state (without_texts state) seen refl refl refl refl

  pub always_held : counted negated is ≡ true → sides ≡ record { held = Some tied.cell; failed = None } → Always
  always_held so same given state plan first rest seen held failed =
      let none : rest ≡ [] = subst (λ (sides : Sides). FollowsOn scene given tied.ties sides.failed (plan false) rest) same failed in
      let on = subst (λ (sides : Sides). FollowsOn scene given tied.ties sides.held (plan true) first) same held in
      put_down_fits (PlacedFits scene given) state (plan (counted negated is)) (first ++ rest)
      (subst (λ at. AreBranches (PlacedFits scene given) (plan at) (without_texts state) (first ++ rest)) (sym so)
      (subst (AreBranches (PlacedFits scene given) (plan true) (without_texts state))
      (sym (ap (λ rest. first ++ rest) none ∙ append-nil first)) (on (without_texts state) (seen_down given state seen) refl)))

  pub always_failed : counted negated is ≡ false → sides ≡ record { held = None; failed = Some tied.cell } → Always
  always_failed so same given state plan first rest seen held failed =
      let none : first ≡ [] = subst (λ (sides : Sides). FollowsOn scene given tied.ties sides.held (plan true) first) same held in
      let off = subst (λ (sides : Sides). FollowsOn scene given tied.ties sides.failed (plan false) rest) same failed in
      put_down_fits (PlacedFits scene given) state (plan (counted negated is)) (first ++ rest)
      (subst (λ at. AreBranches (PlacedFits scene given) (plan at) (without_texts state) (first ++ rest)) (sym so)
      (subst (AreBranches (PlacedFits scene given) (plan false) (without_texts state))
      (sym (ap (λ first. first ++ rest) none)) (off (without_texts state) (seen_down given state seen) refl)))
