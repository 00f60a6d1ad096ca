use Rattle.hc_addr.proofs.Common.{◌-◌, ◌≤◌, arith, lit<, pow-le-pow_right}
use Rattle.hc_addr.proofs.Powers.{joined_below}
use Rattle.hc_addr.proofs.net.leading.Goals as goal

pub pow-requires : goal.pow-requires
pow-requires c =
    let few : 4 - c.args.row.count ≤ 4 = omega arith in
    omega (arith, pow-le-pow_right {n = 256} (lit< tt) few)

pub overflow_mul-result : goal.overflow_mul-result
overflow_mul-result c =
    let h = joined_below 256 4 c.args.row.value 0 c.args.row.count 0 (lit< tt) c.requires.fits (lit< tt)
    (omega arith) in
    rw c.pow.ensures (omega arith)

pub overflow_cast-result : goal.overflow_cast-result
overflow_cast-result c =
    let h = joined_below 256 4 c.args.row.value 0 c.args.row.count 0 (lit< tt) c.requires.fits (lit< tt)
    (omega arith) in
    rw c.pow.ensures (omega arith)
