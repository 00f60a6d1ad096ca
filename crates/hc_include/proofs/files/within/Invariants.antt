use Rattle.std.proofs.Common.{◌≡◌, take}
use Rattle.hc_include.proofs.files.within.Given as goal

abbrev pub invariant-loop-outer : goal.invariant-loop-outer
invariant-loop-outer l = l.files ≡ take l.outer-index l.chain
