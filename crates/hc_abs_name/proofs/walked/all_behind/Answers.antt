use Rattle.std.proofs.Common.{arith}
use Rattle.std.proofs.lemmas.Iterator.Adapters.{YieldsList-from_vec}
use Rattle.std.proofs.lemmas.Iterator.Consumers.{YieldsList-end}
use Rattle.std.proofs.lemmas.List.{map-id}
use Rattle.hc_abs_name.proofs.Common.{◌∙◌, refl, subst, sym}
use Rattle.hc_abs_pass.specs.Walking.{WalkedFits}
use Rattle.hc_abs_name.specs.Walked.{AreBehindWalk, there_next}
use Rattle.hc_abs_name.proofs.Joining.{behind_added}
use Rattle.hc_abs_name.proofs.walked.all_behind.Goals as goal

pub loop-one-init : goal.loop-one-init
loop-one-init g c = ((λ levels listed. c.new-found.ensures.items), refl, λ each is. is)

pub loop-one-preserved : goal.loop-one-preserved
loop-one-preserved g c =
    let ground = c.args.ground in
    let before = c.loop-one.invariant in (
      behind_added ground (WalkedFits ground.client) (there_next ground c.args.decisions.now c.args.aliased)
          c.loop-one.yielded c.in-Some.one c.loop-one.found.items c.in_ok-more.more.items c.append.new.self.items before.0
          c.in_ok-append.ensures.items c.in_ok-more.ensures.branches,
      c.behind.ensures.over.0 ∙ before.1,
      (λ each is. c.behind.ensures.over.1 each (before.2 each is)),
    )

pub returns-clause-branches : goal.returns-clause-branches
returns-clause-branches g c =
    let gives = c.into_iter-one-iterator.ensures.into_iter_gives in
    let end = YieldsList-end (YieldsList-from_vec {s = c.into_iter-one-iterator.result} c.args.walked.items gives.0
    (let same = gives.1 in omega (arith, same))) c.loop-one.yielded
    c.loop-one.one-iterator c.loop-one.yielded_by c.next.result c.next.new.self c.in-None.is c.next.ensures.steps in
    subst (λ walked. AreBehindWalk c.args.ground c.args.decisions.now c.args.aliased walked c.loop-one.found.items)
    (sym (map-id c.loop-one.yielded) ∙ end.0) c.loop-one.invariant.0
