use Rattle.std.proofs.Common.{◌∙◌}
use Rattle.hc_abs_map.proofs.Segments.{doubled_is}
use Rattle.hc_abs_map.proofs.dots.doubled.Goals as goal

pub returns : goal.returns
returns c text bytes = c.in_ok-made.ensures text bytes ∙ doubled_is text
