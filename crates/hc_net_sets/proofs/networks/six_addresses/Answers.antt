use Rattle.hc_net_sets.proofs.Common.{◌∙◌, ap, arith, ◌≡◌}
use Rattle.hc_net_sets.proofs.Unions.{more_gaps, six_is}
use Rattle.hc_net_sets.specs.Unions.{six_texts}
use Rattle.hc_net_sets.proofs.networks.six_addresses.Goals as goal

pub loop-behind-init : goal.loop-behind-init
loop-behind-init c = c.in_ok-made.ensures

pub loop-behind-preserved : goal.loop-behind-preserved
loop-behind-preserved c =
    more_gaps c.loop-behind.made c.in_ok-made-2.made c.args.own c.args.mask c.loop-behind.behind
    c.loop-behind.invariant c.in_ok-made-2.ensures

pub returns : goal.returns
returns c text bytes =
    c.loop-behind.invariant text bytes
    ∙ ap (λ most. six_texts c.args.own c.args.mask most text)
    (let e : c.loop-behind.behind ≡ 8 = omega (arith, c.loop-behind-test.false, c.loop-behind.auto.behind-end) in e)
    ∙ six_is c.args.own c.args.mask (omega (arith, c.ranges.own.fits)) text
