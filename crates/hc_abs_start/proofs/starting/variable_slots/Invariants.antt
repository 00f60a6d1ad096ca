use Rattle.std.proofs.Common.{◌≡◌, map, take}
use Rattle.hc_plan.specs.Slots.{Slot}
use Rattle.hc_abs_start.proofs.starting.variable_slots.Given as goal

abbrev pub invariant-loop-name : goal.invariant-loop-name
invariant-loop-name l = l.slots ≡ map Slot.Env (take l.name-index l.names)
