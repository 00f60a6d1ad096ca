-- The text of a slot, on both sides of a test.
use Rattle.std.specs.Prelude.{◌++◌, List, Bool, true, false, Option, None, Some}
use Rattle.hc_addr.specs.declared.addr.Addr.{Addr}
use Rattle.hc_cells.specs.declared.ties.Ties.{Ties}
use Rattle.hc_dfa.specs.Automata.{Automaton}
use Rattle.hc_dfa.specs.Built.{Accepts}
use Rattle.hc_dfa.specs.Texts.{TextSet}
use Rattle.hc_model.specs.declared.request.Caller.{Caller}
use Rattle.hc_plan.specs.Coded.{AreBranches}
use Rattle.hc_plan.specs.Plan.{Plan}
use Rattle.hc_plan.specs.Slots.{Slot}
use Rattle.hc_plan.specs.States.{AbsState}
use Rattle.hc_plan.specs.declared.hand.Way.{Way}
use Rattle.hc_plan.specs.declared.storing.Tied.{Tied}
use Rattle.hc_abs_left.specs.Segments.{SegmentFits}
use Rattle.hc_abs_left.specs.declared.segment.Segment.{Segment}
use Rattle.hc_abs_pass.specs.Ends.{EndsAt}
use Rattle.hc_abs_pass.specs.Passing.{Segment as End}
use Rattle.hc_abs_pass.specs.Sections.{of_slot}
use Rattle.hc_abs_dir.specs.Behind.{AreOn}
use Rattle.hc_abs_dir.specs.declared.sides.Sides.{Sides}

-- The states of the way of a test, if there are any.
abbrev pub tied_on : Ties → Option Way → Option Tied
tied_on ties None = None
tied_on ties (Some way) = Some (record { cell = way.cell; ties = ties })

-- What is found on both sides are the branches of the test, whatever follows it.
abbrev pub AreSides : Slot → Automaton → Tied → Sides → Type 0
AreSides slot own tied sides = (client : Option Addr) (caller : Caller) (set : TextSet) (plan : Bool → Plan End)
    (state : AbsState) (first rest : List Segment) → Accepts own set → EndsAt client tied state
    → AreOn (SegmentFits client caller) client sides.held (plan true) first
    → AreOn (SegmentFits client caller) client sides.failed (plan false) rest
    → AreBranches (SegmentFits client caller) (of_slot slot set plan) state (first ++ rest)
