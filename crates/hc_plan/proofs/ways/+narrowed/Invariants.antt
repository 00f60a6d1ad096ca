use Rattle.std.proofs.Common.{length}
use Rattle.hc_plan.proofs.ways.+narrowed.Given as goal

abbrev pub decreases-narrowed : goal.decreases-narrowed
decreases-narrowed l = length l.rest.now
