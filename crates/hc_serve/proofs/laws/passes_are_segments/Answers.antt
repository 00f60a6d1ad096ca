use Rattle.hc_serve.proofs.Segments.{passes_are_segments}
use Rattle.hc_serve.proofs.laws.passes_are_segments.Goals as goal

pub returns : goal.returns
returns c = passes_are_segments
