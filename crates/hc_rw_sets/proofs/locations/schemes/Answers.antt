use Rattle.std.proofs.Common.{◌∙◌}
use Rattle.hc_rw_sets.proofs.Schemed.{scheme_read}
use Rattle.hc_rw_sets.proofs.locations.schemes.Goals as goal

pub returns : goal.returns
returns c text bytes = c.in_ok-made.ensures text bytes ∙ scheme_read text bytes
