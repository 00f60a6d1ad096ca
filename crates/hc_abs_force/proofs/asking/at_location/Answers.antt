use Rattle.hc_merge.specs.Reaching.{is_at}
use Rattle.hc_plan.specs.Slots.{Slot}
use Rattle.hc_abs_force.proofs.Tried.{slot_tried}
use Rattle.hc_abs_force.proofs.asking.at_location.Goals as goal

pub returns : goal.returns
returns c scene =
    slot_tried Slot.Path c.in_ok-set.set (is_at c.args.location.now) c.in_ok-set.ensures scene c.args.parent
    c.args.before.items c.in_ok-later.later.items c.in_ok-later.ensures
