use Rattle.std.proofs.Common.{◌≡◌, drop, length, take}
use Rattle.hc_claim.specs.Asking.{Asked}
use Rattle.hc_claim.specs.Walking.{Fits}
use Rattle.hc_model.specs.Overrides.{Kept}
use Rattle.hc_named.specs.declared.names.Names.{Names}
use Rattle.hc_cert.specs.Coded.{AreReady, AreWalkedIn, named_in}
use Rattle.hc_cert.proofs.walking.branches_of_each.Given as goal

abbrev pub invariant-loop-own : goal.invariant-loop-own
invariant-loop-own g l = AreReady (drop l.own-index l.cells)
    × ((asked : Asked) (names : Names) → Fits asked names l.ground
    → AreWalkedIn l.ground asked names (named_in (take l.own-index l.cells)) l.found.items)
    × (g.O.Overrides.fixed l.over ≡ g.O.Overrides.fixed l.initial.over)
    × Kept (g.O.Overrides.loaded l.initial.over) (g.O.Overrides.loaded l.over)
    × (length l.found.items ≡ l.own-index)
