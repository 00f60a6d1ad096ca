use Rattle.hc_kept_lines.proofs.Touching.{TouchedTo}
use Rattle.hc_kept_lines.proofs.places.touched_len.Given as goal

abbrev pub invariant-loop-more : goal.invariant-loop-more
invariant-loop-more l = TouchedTo l.was l.now l.back l.more
