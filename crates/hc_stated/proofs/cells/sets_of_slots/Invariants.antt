use Rattle.std.proofs.Common.{◌≡◌, []}
use Rattle.serde_json.specs.View.{members_view}
use Rattle.hc_json.specs.Cells.{slots_of}
use Rattle.hc_stated.specs.CellViews.{slot_sets}
use Rattle.hc_stated.specs.Cells.{slots_behind}
use Rattle.hc_stated.proofs.cells.sets_of_slots.Given as goal

-- the sets that were read, with those of the members that are left, are all
abbrev pub invariant-loop-key : goal.invariant-loop-key
invariant-loop-key l = slots_behind (slot_sets l.sets.items) (slots_of (members_view l.key-iterator))
    ≡ slots_behind [] (slots_of (members_view l.slots.entries))
