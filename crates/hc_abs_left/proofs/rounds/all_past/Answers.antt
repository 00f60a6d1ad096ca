use Rattle.std.proofs.Common.{arith}
use Rattle.std.proofs.lemmas.Iterator.Adapters.{YieldsList-from_vec}
use Rattle.std.proofs.lemmas.Iterator.Consumers.{YieldsList-end}
use Rattle.std.proofs.lemmas.List.{map-id}
use Rattle.std.specs.Rc.{rc_value}
use Rattle.hc_abs_left.proofs.Common.{◌∙◌, subst, sym}
use Rattle.hc_plan.proofs.Coded.{next_added}
use Rattle.hc_abs_pass.specs.Listing.{ListedFits}
use Rattle.hc_abs_pass.specs.Passing.{dir_left}
use Rattle.hc_abs_rw.specs.Frames.{common}
use Rattle.hc_abs_left.specs.Grounds.{ground_in}
use Rattle.hc_abs_left.specs.Rounds.{ArePast}
use Rattle.hc_abs_left.specs.Segments.{SegmentFits}
use Rattle.hc_abs_left.proofs.rounds.all_past.Goals as goal

pub loop-one-preserved : goal.loop-one-preserved
loop-one-preserved c levels merges own fit =
    let ground = c.args.ground in
    next_added (ListedFits ground.client (common ground.tests.now)) (SegmentFits ground.client ground.tests.now)
    (dir_left (ground_in levels merges ground) own) c.loop-one.yielded c.in-Some.one c.loop-one.found.items
    c.add_past.new.found.items (c.loop-one.invariant levels merges own fit)
    (c.in_ok-add_past.ensures levels merges own fit)

pub returns : goal.returns
returns c =
    let gives = c.into_iter-one-iterator.ensures.into_iter_gives in
    let end = YieldsList-end (YieldsList-from_vec {s = c.into_iter-one-iterator.result} c.args.listed.items gives.0
    (let same = gives.1 in omega (arith, same))) c.loop-one.yielded
    c.loop-one.one-iterator c.loop-one.yielded_by c.next.result c.next.new.self c.in-None.is c.next.ensures.steps in
    subst (λ listed. ArePast c.args.ground (rc_value c.args.settings.now) listed c.loop-one.found.items)
    (sym (map-id c.loop-one.yielded) ∙ end.0) c.loop-one.invariant
