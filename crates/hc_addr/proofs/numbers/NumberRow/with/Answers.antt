use Rattle.hc_addr.proofs.Common.{arith, ◌+◌, ◌*◌, ◌<◌, ◌^◌, base_of}
use Rattle.hc_addr.proofs.Powers.{room_fits}
use Rattle.hc_addr.proofs.numbers.NumberRow.with.Goals as goal

pub overflow_mul-result : goal.overflow_mul-result
overflow_mul-result c =
    let h : c.args.self.value * base_of c.args.form + c.in_ok-number.number < 2 ^ 128 =
    room_fits c.args.form _ _ _ c.requires.fits c.in_ok-number.ensures.fits (omega arith) in
    rw c.base.ensures (omega arith)

pub overflow_add-result : goal.overflow_add-result
overflow_add-result c =
    let h : c.args.self.value * base_of c.args.form + c.in_ok-number.number < 2 ^ 128 =
    room_fits c.args.form _ _ _ c.requires.fits c.in_ok-number.ensures.fits (omega arith) in
    rw c.base.ensures (omega arith)
