use Rattle.hc_pattern.proofs.Common.{◌≡◌, min, take, value_of}
use Rattle.hc_pattern.proofs.count.number.Given as goal

abbrev pub invariant-loop-digit : goal.invariant-loop-digit
invariant-loop-digit l = l.value ≡ min (value_of (take l.digit-index l.digits)) 256
