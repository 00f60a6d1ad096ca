use Rattle.std.proofs.Common.{arith}
use Rattle.std.proofs.lemmas.Iterator.Adapters.{YieldsList-from_vec}
use Rattle.std.proofs.lemmas.Iterator.Consumers.{YieldsList-end}
use Rattle.std.proofs.lemmas.List.{map-id}
use Rattle.hc_abs_cuts.proofs.Common.{◌∙◌, map, subst, sym}
use Rattle.hc_merge.specs.CandidateView.{candidate_of}
use Rattle.hc_plan.proofs.Coded.{next_added}
use Rattle.hc_abs_cuts.specs.Coded.{AreInForce, ForcedHere, PlaceFits, forced_next}
use Rattle.hc_abs_cuts.proofs.sections.in_force.Goals as goal

pub loop-one-init : goal.loop-one-init
loop-one-init c = λ levels end same. c.new-found.ensures.items

pub loop-one-preserved : goal.loop-one-preserved
loop-one-preserved c =
    let ground = c.args.ground in
    let dir = c.args.dir.now in
    λ levels end same. next_added (ForcedHere ground dir (map candidate_of c.args.candidates.now))
    (PlaceFits ground.client) (forced_next ground dir levels end) c.loop-one.yielded c.in-Some.one
    c.loop-one.found.items c.add_in_force.new.found.items (c.loop-one.invariant levels end same)
    (c.in_ok-add_in_force.ensures levels end same)

pub returns : goal.returns
returns c =
    let gives = c.into_iter-one-iterator.ensures.into_iter_gives in
    let end = YieldsList-end (YieldsList-from_vec {s = c.into_iter-one-iterator.result} c.args.forced.items gives.0
    (let same = gives.1 in omega (arith, same))) c.loop-one.yielded
    c.loop-one.one-iterator c.loop-one.yielded_by c.next.result c.next.new.self c.in-None.is c.next.ensures.steps in
    subst (λ forced. AreInForce c.args.ground c.args.dir.now c.args.kind (map candidate_of c.args.candidates.now) forced
    c.loop-one.found.items) (sym (map-id c.loop-one.yielded) ∙ end.0) c.loop-one.invariant
