use Rattle.std.proofs.Common.{◌≡◌, filter, map}
use Rattle.hc_include.specs.Include.{is_some_byte}
use Rattle.hc_include.proofs.candidates.parts_of.Given as goal

abbrev pub invariant-loop-part : goal.invariant-loop-part
invariant-loop-part l = l.parts ≡ filter is_some_byte (map (λ part. part.now) l.yielded)
