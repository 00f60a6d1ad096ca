use Rattle.std.proofs.Common.{◌≡◌, ◌++◌, drop, length}
use Rattle.hc_addr.specs.Printed.{last_digits}
use Rattle.hc_addr.proofs.print.write_digits.Given as goal

abbrev pub invariant-loop-place : goal.invariant-loop-place
invariant-loop-place l = last_digits l.base l.place l.rest ++ drop l.place l.digits
    ≡ last_digits l.base (length l.fn.digits) l.value
