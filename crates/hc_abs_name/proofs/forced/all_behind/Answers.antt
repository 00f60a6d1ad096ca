use Rattle.std.proofs.Common.{arith}
use Rattle.std.proofs.lemmas.Iterator.Adapters.{YieldsList-from_vec}
use Rattle.std.proofs.lemmas.Iterator.Consumers.{YieldsList-end}
use Rattle.std.proofs.lemmas.List.{map-id}
use Rattle.hc_abs_name.proofs.Common.{◌∙◌, map, subst, sym}
use Rattle.hc_merge.specs.CandidateView.{candidate_of}
use Rattle.hc_abs_name.specs.Forced.{AreBehindForce, KeptFits, force_next}
use Rattle.hc_abs_name.proofs.Joining.{behind_added}
use Rattle.hc_abs_name.proofs.forced.all_behind.Goals as goal

pub loop-one-init : goal.loop-one-init
loop-one-init c = λ end same levels listed. c.new-found.ensures.items

pub loop-one-preserved : goal.loop-one-preserved
loop-one-preserved c =
    let ground = c.args.ground in
    λ end same. behind_added ground (KeptFits ground.client (map candidate_of c.args.candidates.now))
    (force_next ground c.args.decisions.now c.args.aliased end) c.loop-one.yielded c.in-Some.one c.loop-one.found.items
    c.in_ok-more.more.items c.append.new.self.items (c.loop-one.invariant end same) c.in_ok-append.ensures.items
    (c.in_ok-more.ensures end same)

pub returns : goal.returns
returns c =
    let gives = c.into_iter-one-iterator.ensures.into_iter_gives in
    let end = YieldsList-end (YieldsList-from_vec {s = c.into_iter-one-iterator.result} c.args.forced.items gives.0
    (let same = gives.1 in omega (arith, same))) c.loop-one.yielded
    c.loop-one.one-iterator c.loop-one.yielded_by c.next.result c.next.new.self c.in-None.is c.next.ensures.steps in
    subst (λ forced. AreBehindForce c.args.ground c.args.decisions.now c.args.aliased c.args.kind
    (map candidate_of c.args.candidates.now) forced c.loop-one.found.items)
    (sym (map-id c.loop-one.yielded) ∙ end.0) c.loop-one.invariant
