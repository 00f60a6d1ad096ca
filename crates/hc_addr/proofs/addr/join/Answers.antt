use Rattle.hc_addr.proofs.Common.{◌-◌, ◌≤◌, arith, lit<, pow-le-pow_right}
use Rattle.hc_addr.proofs.Powers.{joined_below}
use Rattle.hc_addr.proofs.addr.join.Goals as goal

pub pow-requires : goal.pow-requires
pow-requires c =
    let few : 8 - c.args.before.count ≤ 7 = omega arith in
    omega (arith, pow-le-pow_right {n = 65536} (lit< tt) few)

pub overflow_mul-result : goal.overflow_mul-result
overflow_mul-result c =
    let h = joined_below 65536 8 c.args.before.value c.args.after.value _ _ (lit< tt) c.requires.before_fits
    c.requires.after_fits (omega arith) in
    rw c.pow.ensures (omega arith)

pub overflow_add-result : goal.overflow_add-result
overflow_add-result c =
    let h = joined_below 65536 8 c.args.before.value c.args.after.value _ _ (lit< tt) c.requires.before_fits
    c.requires.after_fits (omega arith) in
    rw c.pow.ensures (omega arith)
