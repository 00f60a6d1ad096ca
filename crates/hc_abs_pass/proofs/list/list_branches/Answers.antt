use Rattle.hc_abs_rw.specs.Known.{frame_at}
use Rattle.hc_abs_pass.proofs.Listing.{list_begins, list_goes_on, list_over}
use Rattle.hc_abs_pass.proofs.list.list_branches.Goals as goal

pub loop-rule-init : goal.loop-rule-init
loop-rule-init g c found =
    list_begins (frame_at g.S.Surroundings.kind g.S.Surroundings.values c.args.frame.now) c.args.frame.now.client
    c.args.rules.now c.args.before c.args.so_far c.new-placed.result.items c.push.new.self.items found
    c.new-placed.ensures.items c.in_ok-push.ensures.items

pub loop-rule-preserved : goal.loop-rule-preserved
loop-rule-preserved g c found are =
    c.loop-rule.invariant found
    (list_goes_on (frame_at g.S.Surroundings.kind g.S.Surroundings.values c.args.frame.now) c.args.frame.now.client
    c.loop-rule.rest.now c.in-Some.behind.now c.in-Some.rule.now c.loop-rule.placed.items c.in_ok-placed.placed.items
    found c.in-Some.ensures.cases.0 c.in_ok-placed.ensures are)

pub returns-clause-branches : goal.returns-clause-branches
returns-clause-branches g c =
    c.loop-rule.invariant c.in_ok-found.found.items
    (list_over (frame_at g.S.Surroundings.kind g.S.Surroundings.values c.args.frame.now) c.args.frame.now.client
    c.loop-rule.rest.now c.loop-rule.placed.items c.in_ok-found.found.items c.in_default.ensures.cases
    c.in_ok-found.ensures)
