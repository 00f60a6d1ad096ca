-- What is found on both sides of a test are the branches of its plan.
use Rattle.hc_abs_dir.proofs.Common.{◌≡◌, ◌∙◌, List, [], ◌∷◌, ◌++◌, Bool, true, false, not, Option, None, Some, refl}
use Rattle.hc_abs_dir.proofs.Common.{sym, ap, subst, inl, Addr, Automaton, accepts, Accepts, TextSet, Branch}
use Rattle.hc_abs_dir.proofs.Common.{AreBranches, Plan, Slot, AbsState, Tied, SegmentFits, EndsAt}
use Rattle.hc_plan.proofs.Coded.{Follows, put_down_fits, take_up_fits, test_fits}
use Rattle.hc_plan.specs.Branches.{others, without_texts}
use Rattle.hc_plan.specs.Hands.{parts_of}
use Rattle.hc_plan.specs.Plan.{put_down, test}
use Rattle.hc_plan.specs.States.{open_slot, whole, with_text}
use Rattle.hc_plan.specs.Ways.{Stands, on}
use Rattle.hc_plan.specs.declared.hand.Element.{Element}
use Rattle.hc_plan.specs.declared.hand.Element.TheVariants as element
use Rattle.hc_plan.specs.declared.hand.Way.{Way}
use Rattle.hc_abs_rw.specs.Templates.{main, slot_item}
use Rattle.hc_abs_rw.specs.Trials.{AreWays}
use Rattle.hc_abs_rw.specs.declared.ways.Ways.{Ways}
use Rattle.hc_abs_pass.specs.Sections.{of_slot}
use Rattle.hc_abs_dir.specs.Behind.{AreOn}
use Rattle.hc_abs_dir.specs.Sides.{AreSides, tied_on}
use Rattle.hc_abs_dir.specs.declared.sides.Sides.{Sides}

abbrev pub slot_alone : Slot → List Element
slot_alone slot = element.Open slot 0 ∷ []

module _ {A B : Type 0} (Fit : B → Branch A → Type 0) (client : Option Addr) (slot : Slot) (tied : Tied)
    (state : AbsState) (ends : EndsAt client tied state) where
  abbrev held_up : AbsState
  held_up = with_text state main (whole (parts_of (slot_alone slot)))

  stands : Stands tied.cell tied.ties (slot_alone slot) 0 None held_up main
  stands = record {
    holds = ends.cell;
    tied = ends.ties;
    hand = record { made = refl; behind = refl; lies = inl (λ x bytes. refl) };
  }

  side_follows : (asked : TextSet) (plan : Plan A) (way : Option Way) (found : List B)
      → AreOn Fit client (tied_on tied.ties way) plan found
      → Follows Fit tied.cell tied.ties (slot_alone slot) 0 None held_up main stands (λ now. now) asked (put_down plan)
      way found
  side_follows asked plan None found none = none
  side_follows asked plan (Some way) found are = λ now stands keeps.
      put_down_fits Fit now plan found (are (without_texts now) (record {
        cell = stands.holds;
        ties = stands.tied;
        given = keeps.given ∙ ends.given;
        printed = keeps.printed ∙ ends.printed;
      }))

  slot_tested : (own : Automaton) (set : TextSet) (plan : Bool → Plan A) (ways : Ways) (first rest : List B)
      → Accepts own set → AreWays tied.cell tied.ties (slot_alone slot) 0 None false (accepts own) ways
      → AreOn Fit client (tied_on tied.ties ways.held) (plan true) first
      → AreOn Fit client (tied_on tied.ties ways.failed) (plan false) rest
      → AreBranches Fit (of_slot slot set plan) state (first ++ rest)
  slot_tested own set plan ways first rest is are held failed =
      take_up_fits Fit state main (slot_item slot ∷ []) (open_slot slot 0 ∷ [])
      (test main set (λ is. put_down (plan is))) (first ++ rest) (open_slot slot 0, [], refl, refl, refl)
      (test_fits Fit tied.cell tied.ties (slot_alone slot) 0 None held_up main stands set (on true (accepts own))
      (on false (accepts own)) (λ is. put_down (plan is)) ways.held ways.failed first rest (λ x text. sym (is x text))
      (λ x text. ap not (sym (is x text))) are.0 are.1
      (side_follows (others set) (plan false) ways.failed rest failed)
      (side_follows set (plan true) ways.held first held))

pub sides_are : (slot : Slot) (own : Automaton) (tied : Tied) (ways : Ways) (sides : Sides)
    → AreWays tied.cell tied.ties (slot_alone slot) 0 None false (accepts own) ways
    → sides.held ≡ tied_on tied.ties ways.held → sides.failed ≡ tied_on tied.ties ways.failed
    → AreSides slot own tied sides
sides_are slot own tied ways sides are held failed client caller set plan state first rest is ends on off =
    slot_tested (SegmentFits client caller) client slot tied state ends own set plan ways first rest is are
    (subst (λ given. AreOn (SegmentFits client caller) client given (plan true) first) held on)
    (subst (λ given. AreOn (SegmentFits client caller) client given (plan false) rest) failed off)
