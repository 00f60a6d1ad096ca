use Rattle.std.proofs.Common.{◌∙◌}
use Rattle.hc_sent.proofs.Spots.{clean_read}
use Rattle.hc_sent.proofs.clean.clean_paths.Goals as goal

pub returns : goal.returns
returns c text bytes = c.in_ok-made.ensures text bytes ∙ clean_read text
