use Rattle.hc_plan.proofs.Coded.{next_added}
use Rattle.hc_abs_rw.specs.Known.{frame_at}
use Rattle.hc_abs_pass.specs.Listing.{PlaceFits, rule_plan}
use Rattle.hc_abs_pass.proofs.list.past_rule.Goals as goal

pub loop-one-preserved : goal.loop-one-preserved
loop-one-preserved g c =
    let frame = frame_at g.S.Surroundings.kind g.S.Surroundings.values c.args.frame.now in
    let client = c.args.frame.now.client in
    next_added (PlaceFits client frame.caller) (PlaceFits client frame.caller)
    (rule_plan frame c.args.rule.now c.args.behind.now) c.loop-one.yielded c.in-Some.one c.loop-one.later.items
    c.add_past.new.later.items c.loop-one.invariant c.in_ok-add_past.ensures
