use Rattle.std.proofs.Common.{take}
use Rattle.hc_abs_pass.specs.Walking.{AreTried}
use Rattle.hc_abs_pass.proofs.walk.tried.Given as goal

abbrev pub invariant-loop-end : goal.invariant-loop-end
invariant-loop-end l = AreTried l.named (take l.end-index l.ends) l.found.items
