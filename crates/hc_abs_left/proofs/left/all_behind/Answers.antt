use Rattle.std.proofs.Common.{arith}
use Rattle.std.proofs.lemmas.Iterator.Adapters.{YieldsList-from_vec}
use Rattle.std.proofs.lemmas.Iterator.Consumers.{YieldsList-end}
use Rattle.std.proofs.lemmas.List.{map-id}
use Rattle.hc_abs_left.proofs.Common.{◌∙◌, subst, sym}
use Rattle.hc_plan.proofs.Coded.{next_added}
use Rattle.hc_abs_map.specs.Mapped.{RedirectedFits}
use Rattle.hc_abs_left.specs.Left.{AreBehind, behind_redirects}
use Rattle.hc_abs_left.specs.Segments.{SegmentFits}
use Rattle.hc_abs_left.proofs.left.all_behind.Goals as goal

pub loop-one-preserved : goal.loop-one-preserved
loop-one-preserved c =
    let ground = c.args.ground in
    next_added (RedirectedFits ground.client) (SegmentFits ground.client ground.tests.now)
    (behind_redirects ground c.args.settings.now c.args.decisions.now c.args.ran) c.loop-one.yielded c.in-Some.one
    c.loop-one.found.items c.add_behind.new.found.items c.loop-one.invariant c.in_ok-add_behind.ensures

pub returns : goal.returns
returns c =
    let gives = c.into_iter-one-iterator.ensures.into_iter_gives in
    let end = YieldsList-end (YieldsList-from_vec {s = c.into_iter-one-iterator.result} c.args.redirected.items gives.0
    (let same = gives.1 in omega (arith, same))) c.loop-one.yielded
    c.loop-one.one-iterator c.loop-one.yielded_by c.next.result c.next.new.self c.in-None.is c.next.ensures.steps in
    subst (λ redirected. AreBehind c.args.ground c.args.settings.now c.args.decisions.now c.args.ran redirected
    c.loop-one.found.items) (sym (map-id c.loop-one.yielded) ∙ end.0) c.loop-one.invariant
