use Rattle.hc_net_sets.proofs.Common.{◌∙◌, refl}
use Rattle.hc_net_sets.proofs.Pieces.{gapped_read}
use Rattle.hc_net_sets.specs.Unions.{six}
use Rattle.hc_net_sets.proofs.networks.gapped.Goals as goal

pub returns : goal.returns
returns c text bytes =
    c.in_ok-made.ensures text bytes ∙ gapped_read (six c.args.own c.args.mask c.args.behind) refl text
