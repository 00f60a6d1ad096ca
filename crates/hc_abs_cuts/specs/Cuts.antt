-- The branches from a cut: the start of a pass, or a further round of a list of rules. Our own choice.
use Rattle.std.specs.Prelude.{List, true, false}
use Rattle.hc_plan.specs.Branches.{Both, Branch, Branches}
use Rattle.hc_plan.specs.States.{AbsState}
use Rattle.hc_abs_pass.specs.Again.{AreFromDir, from_server}
use Rattle.hc_abs_pass.specs.Passing.{Ground, Segment, pass_plan}
use Rattle.hc_invariant.specs.declared.cut.Cut.{Cut}
use Rattle.hc_invariant.specs.declared.cut.Cut.TheVariants as cut

-- These are the branches from a cut.
abbrev pub AreFrom : (ground : Ground) → Cut → AbsState → List (Branch Segment) → Type 0
AreFrom ground cut.Pass state = Branches (pass_plan ground) state
AreFrom ground cut.Server state =
    Both (Branches (from_server ground true) state) (Branches (from_server ground false) state)
AreFrom ground (cut.Dir dir) state = AreFromDir ground dir state
