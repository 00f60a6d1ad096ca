use Rattle.std.proofs.Common.{◌∙◌}
use Rattle.hc_abs_map.proofs.Segments.{dots_are}
use Rattle.hc_abs_map.proofs.dots.dotted.Goals as goal

pub returns : goal.returns
returns c text bytes = c.in_ok-made.ensures text bytes ∙ dots_are text
