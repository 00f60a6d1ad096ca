use Rattle.hc_abs_authz.proofs.Open.{none_open, one_open}
use Rattle.hc_abs_authz.proofs.nets.lowest_open.Goals as goal

pub returns-then-place-width : goal.returns-then-place-width
returns-then-place-width c =
    one_open c.args.width c.args.mask c.trailing_ones-place.result c.ranges.mask.fits c.requires
    c.trailing_ones-place.ensures c.if-place-width.true

pub returns-else-place-width : goal.returns-else-place-width
returns-else-place-width c =
    none_open c.args.width c.args.mask c.trailing_ones-place.result c.ranges.mask.fits c.requires
    c.trailing_ones-place.ensures c.if-place-width.false
