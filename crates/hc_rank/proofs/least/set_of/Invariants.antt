use Rattle.std.proofs.Common.{take}
use Rattle.hc_rank.specs.Sets.{IsSetOf}
use Rattle.hc_rank.proofs.least.set_of.Given as goal

abbrev pub invariant-loop-number : goal.invariant-loop-number
invariant-loop-number l = IsSetOf l.set (take l.number-index l.used)
