use Rattle.hc_rw_sets.proofs.Common.{◌∙◌}
use Rattle.hc_rw_sets.proofs.Named.{files_are}
use Rattle.hc_rw_sets.proofs.naming.files_named.Goals as goal

pub returns : goal.returns
returns c text bytes = c.in_ok-made.ensures text bytes ∙ files_are c.args.paths.now c.requires text
