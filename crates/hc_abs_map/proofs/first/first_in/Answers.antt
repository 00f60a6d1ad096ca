use Rattle.hc_abs_map.proofs.Common.{◌∙◌}
use Rattle.hc_abs_map.proofs.Components.{first_read}
use Rattle.hc_abs_map.proofs.first.first_in.Goals as goal

pub returns : goal.returns
returns c text bytes = c.in_ok-made.ensures text bytes ∙ first_read c.args.paths.now text
