use Rattle.hc_addr.proofs.Common.{◌-◌, ◌≤◌, arith, lit<, pow-le-pow_right}
use Rattle.hc_addr.proofs.net.front_mask.Goals as goal

pub overflow_sub-result : goal.overflow_sub-result
overflow_sub-result c =
    let less : c.args.width - c.args.ones ≤ c.args.width = omega arith in
    omega (arith, pow-le-pow_right {n = 2} (lit< tt) less)
