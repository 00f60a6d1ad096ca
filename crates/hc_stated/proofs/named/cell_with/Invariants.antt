use Rattle.std.proofs.Common.{◌≡◌, drop, take}
use Rattle.hc_stated.specs.CellViews.{slot_sets}
use Rattle.hc_stated.specs.Cells.{HasSets, bad_in_sets}
use Rattle.hc_stated.proofs.named.cell_with.Given as goal

-- the sets that are left decide, and the cell has those before
abbrev pub invariant-loop-own : goal.invariant-loop-own
invariant-loop-own l = record {
  is_read : bad_in_sets (slot_sets (drop l.own-index l.sets)) ≡ bad_in_sets (slot_sets l.sets);
  has : HasSets (slot_sets (take l.own-index l.sets)) l.cell;
}
