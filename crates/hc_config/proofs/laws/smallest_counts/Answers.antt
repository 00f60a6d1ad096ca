use Rattle.hc_config.proofs.Smallest as smallest
use Rattle.hc_config.proofs.laws.smallest_counts.Goals as goal

pub returns : goal.returns
returns c = smallest.smallest_counts
