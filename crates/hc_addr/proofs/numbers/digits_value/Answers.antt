use Rattle.std.proofs.Common.{◌^◌, ◌<◌, arith}
use Rattle.hc_addr.proofs.Powers.{below_power, below_product}
use Rattle.hc_addr.proofs.numbers.digits_value.Goals as goal

pub overflow_mul-value : goal.overflow_mul-value
overflow_mul-value c =
    let h : c.loop-byte.value < 16 ^ 3 = below_power 16 _ _ 3 (omega arith) c.loop-byte.invariant.small (omega arith) in
    omega (arith, below_product c.loop-byte.value c.args.radix 4095 16 (omega arith) (omega arith))

pub overflow_add-value : goal.overflow_add-value
overflow_add-value c =
    let h : c.loop-byte.value < 16 ^ 3 = below_power 16 _ _ 3 (omega arith) c.loop-byte.invariant.small (omega arith) in
    omega (
      arith,
      below_product c.loop-byte.value c.args.radix 4095 16 (omega arith) (omega arith),
      c.in_ok-value.ensures,
    )

pub returns-clause-fits : goal.returns-clause-fits
returns-clause-fits c = below_power 16 _ _ 4 (omega arith) c.loop-byte.invariant.small (omega arith)
