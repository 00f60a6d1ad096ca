use Rattle.std.proofs.Common.{length}
use Rattle.hc_abs_name.proofs.reading.+first_refused.Given as goal

abbrev pub decreases-first_refused : goal.decreases-first_refused
decreases-first_refused g l = length l.wanted.now
