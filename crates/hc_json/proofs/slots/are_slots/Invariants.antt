use Rattle.std.proofs.Common.{◌≡◌, []}
use Rattle.serde_json.specs.View.{members_view}
use Rattle.hc_json.specs.Cells.{are_slots}
use Rattle.hc_json.proofs.slots.are_slots.Given as goal

-- the members that are left decide
abbrev pub invariant-loop-key : goal.invariant-loop-key
invariant-loop-key l = are_slots l.names.keys (members_view l.key-iterator)
    ≡ are_slots [] (members_view l.members.entries)
