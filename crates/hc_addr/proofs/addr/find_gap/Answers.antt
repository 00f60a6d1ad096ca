use Rattle.std.proofs.Common.{◌∙◌, arith}
use Rattle.hc_addr.proofs.Gaps.{gap_step}
use Rattle.hc_addr.proofs.addr.find_gap.Goals as goal

pub loop-at-preserved : goal.loop-at-preserved
loop-at-preserved c = c.loop-at.invariant ∙ gap_step c.loop-at.at c.args.text.now (omega arith) (cc)
