use Rattle.std.proofs.Common.{◌≡◌, ◌++◌, drop}
use Rattle.hc_stated.specs.CellViews.{slot_sets}
use Rattle.hc_stated.specs.Cells.{variables_in}
use Rattle.hc_stated.proofs.named.variables_of.Given as goal

-- the variables so far, with those of the sets that are left, are all
abbrev pub invariant-loop-own : goal.invariant-loop-own
invariant-loop-own l =
    l.names ++ variables_in (slot_sets (drop l.own-index l.sets)) ≡ variables_in (slot_sets l.sets)
