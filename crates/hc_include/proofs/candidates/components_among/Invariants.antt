use Rattle.std.proofs.Common.{◌≡◌, [], drop}
use Rattle.hc_include.specs.Include.{components_from}
use Rattle.hc_include.proofs.candidates.components_among.Given as goal

abbrev pub invariant-loop-part : goal.invariant-loop-part
invariant-loop-part l = components_from [] l.parts ≡ components_from l.components (drop l.part-index l.parts)
