use Rattle.std.proofs.Common.{◌≡◌, take}
use Rattle.hc_cert.specs.Coded.{AreReady, named_in}
use Rattle.hc_cert.proofs.ready.made_ready.Given as goal

abbrev pub invariant-loop-named : goal.invariant-loop-named
invariant-loop-named l = AreReady l.found.items × (named_in l.found.items ≡ take l.named-index l.cells)
