use Rattle.std.proofs.Common.{◌∙◌, arith, subst, sym}
use Rattle.std.proofs.lemmas.Iterator.Adapters.{YieldsList-from_vec}
use Rattle.std.proofs.lemmas.Iterator.Consumers.{YieldsList-end}
use Rattle.std.proofs.lemmas.List.{map-id}
use Rattle.hc_plan.proofs.Coded.{next_added}
use Rattle.hc_abs_view.specs.Jumping.{fork_plan}
use Rattle.hc_abs_view.specs.Placing.{ArePast}
use Rattle.hc_abs_view.specs.Seen.{PlacedFits}
use Rattle.hc_abs_view.specs.Tokens.{fork_of}
use Rattle.hc_abs_view.specs.Viewing.{scene_of}
use Rattle.hc_abs_view.proofs.placed.past_jump.Goals as goal

pub loop-one-preserved : goal.loop-one-preserved
loop-one-preserved c = λ given.
    let scene = c.args.scene in
    let added = c.in_ok-add_past.ensures in
    next_added (PlacedFits scene given) (PlacedFits scene given) (fork_plan (scene_of scene) (fork_of c.args.jump.now))
    c.loop-one.yielded c.in-Some.one c.loop-one.later.items c.add_past.new.later.items (c.loop-one.invariant given)
    (added.0, added.1, added.2 given)

pub returns : goal.returns
returns c =
    let gives = c.into_iter-one-iterator.ensures.into_iter_gives in
    let end = YieldsList-end (YieldsList-from_vec {s = c.into_iter-one-iterator.result} c.args.placed.items gives.0
    (let same = gives.1 in omega (arith, same))) c.loop-one.yielded
    c.loop-one.one-iterator c.loop-one.yielded_by c.next.result c.next.new.self c.in-None.is c.next.ensures.steps in
    subst (λ placed. ArePast c.args.scene (fork_of c.args.jump.now) placed c.loop-one.later.items)
    (sym (map-id c.loop-one.yielded) ∙ end.0) c.loop-one.invariant
