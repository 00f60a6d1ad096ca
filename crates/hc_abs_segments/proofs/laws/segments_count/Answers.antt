use Rattle.hc_abs_segments.proofs.Counting.{segments_count}
use Rattle.hc_abs_segments.proofs.laws.segments_count.Goals as goal

pub returns : goal.returns
returns c = segments_count
