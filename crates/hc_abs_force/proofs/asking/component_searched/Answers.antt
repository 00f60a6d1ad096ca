use Rattle.hc_merge.specs.Reaching.{is_component_found}
use Rattle.hc_plan.specs.Slots.{Slot}
use Rattle.hc_abs_force.proofs.Tried.{slot_tried}
use Rattle.hc_abs_force.proofs.asking.component_searched.Goals as goal

pub returns : goal.returns
returns c scene =
    slot_tried Slot.Name c.in_ok-set.set (is_component_found c.args.pattern.now) c.in_ok-set.ensures scene c.args.parent
    c.args.before.items c.in_ok-later.later.items c.in_ok-later.ensures
