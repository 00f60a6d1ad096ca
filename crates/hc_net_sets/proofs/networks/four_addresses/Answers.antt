use Rattle.hc_net_sets.proofs.Common.{◌∙◌, ap, arith}
use Rattle.hc_net_sets.proofs.Unions.{four_is}
use Rattle.hc_net_sets.specs.Rows.{whole_texts}
use Rattle.hc_net_sets.specs.Unions.{four}
use Rattle.hc_net_sets.proofs.networks.four_addresses.Goals as goal

pub returns : goal.returns
returns c text bytes =
    c.in_ok-made.ensures text bytes
    ∙ ap (λ own. whole_texts (four own c.args.mask) text) c.from.ensures
    ∙ four_is c.args.own c.args.mask (omega (arith, c.ranges.own.fits)) text
