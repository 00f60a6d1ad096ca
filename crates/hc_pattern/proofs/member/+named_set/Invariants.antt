use Rattle.std.proofs.Common.{length}
use Rattle.hc_pattern.proofs.member.+named_set.Given as goal

abbrev pub decreases-named_set : goal.decreases-named_set
decreases-named_set l = length l.sets.now
