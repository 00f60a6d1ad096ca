use Rattle.std.proofs.Common.{arith}
use Rattle.std.proofs.lemmas.Iterator.Adapters.{YieldsList-from_vec}
use Rattle.std.proofs.lemmas.Iterator.Consumers.{YieldsList-end}
use Rattle.std.proofs.lemmas.List.{map-id}
use Rattle.hc_abs_run.proofs.Common.{◌∙◌, subst, sym}
use Rattle.hc_abs_run.specs.Lists.{AllPast}
use Rattle.hc_abs_run.proofs.Past.{past_more}
use Rattle.hc_abs_run.proofs.server.all_past.Goals as goal

pub loop-one-preserved : goal.loop-one-preserved
loop-one-preserved g c = (
  past_more c.args.ground c.loop-one.yielded c.in-Some.one c.loop-one.found.items c.in_ok-more.more.items
      c.append.new.self.items c.loop-one.invariant.0 c.in_ok-append.ensures.items c.in_ok-more.ensures.branches,
  c.past.ensures.over.0 ∙ c.loop-one.invariant.1,
  λ each is. c.past.ensures.over.1 each (c.loop-one.invariant.2 each is),
)

pub returns-clause-branches : goal.returns-clause-branches
returns-clause-branches g c =
    let gives = c.into_iter-one-iterator.ensures.into_iter_gives in
    let end = YieldsList-end (YieldsList-from_vec {s = c.into_iter-one-iterator.result} c.args.listed.items gives.0
    (let same = gives.1 in omega (arith, same))) c.loop-one.yielded
    c.loop-one.one-iterator c.loop-one.yielded_by c.next.result c.next.new.self c.in-None.is c.next.ensures.steps in
    subst (λ listed. AllPast c.args.ground listed c.loop-one.found.items) (sym (map-id c.loop-one.yielded) ∙ end.0)
    c.loop-one.invariant.0
