use Rattle.std.proofs.Common.{◌≡◌, drop}
use Rattle.hc_plan.specs.Hands.{cell_of, set_in}
use Rattle.hc_abs_start.specs.Starting.{put_each}
use Rattle.hc_abs_start.proofs.starting.with_each.Given as goal

-- the slots that are left lead to the whole
abbrev pub invariant-loop-slot : goal.invariant-loop-slot
invariant-loop-slot l =
    put_each (drop l.slot-index l.slots) (set_in l.set) (cell_of l.cell)
    ≡ put_each l.slots (set_in l.set) (cell_of l.before)
