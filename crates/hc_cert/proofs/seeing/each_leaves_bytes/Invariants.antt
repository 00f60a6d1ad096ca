use Rattle.std.proofs.Common.{drop}
use Rattle.std.specs.List.{AllByRecursion}
use Rattle.hc_claim.specs.Asking.{Asked}
use Rattle.hc_claim.specs.Walking.{Fits}
use Rattle.hc_named.specs.declared.names.Names.{Names}
use Rattle.hc_cert.specs.Coded.{AreReady, LeavesBytesIn, named_in}
use Rattle.hc_cert.proofs.seeing.each_leaves_bytes.Given as goal

abbrev pub invariant-loop-own : goal.invariant-loop-own
invariant-loop-own l = AreReady (drop l.own-index l.cells)
    × ((asked : Asked) (names : Names) → Fits asked names l.ground
    → AllByRecursion (LeavesBytesIn asked names) (named_in (drop l.own-index l.cells))
    → AllByRecursion (LeavesBytesIn asked names) (named_in l.cells))
