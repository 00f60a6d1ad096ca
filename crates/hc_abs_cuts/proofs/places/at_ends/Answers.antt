use Rattle.std.proofs.Common.{arith}
use Rattle.std.proofs.lemmas.Iterator.Adapters.{YieldsList-from_vec}
use Rattle.std.proofs.lemmas.Iterator.Consumers.{YieldsList-end}
use Rattle.std.proofs.lemmas.List.{map-id}
use Rattle.hc_abs_cuts.proofs.Common.{◌∙◌, refl, subst, sym}
use Rattle.hc_abs_cuts.proofs.Placing.{one_end_more}
use Rattle.hc_abs_cuts.specs.Coded.{AreAtEndsIn}
use Rattle.hc_abs_cuts.proofs.places.at_ends.Goals as goal

pub loop-end-init : goal.loop-end-init
loop-end-init g c = (c.new-found.ensures.items, refl, λ each is. is)

pub loop-end-preserved : goal.loop-end-preserved
loop-end-preserved g c =
    let before = c.loop-end.invariant in (
      one_end_more c.args.ground c.args.dir.now c.args.tied.now c.loop-end.yielded c.in-Some.end c.loop-end.found.items
          c.in_ok-more.more.items c.append.new.self.items before.0 c.in_ok-append.ensures.items
          c.in_ok-more.ensures.places,
      c.at_end.ensures.over.0 ∙ before.1,
      (λ each is. c.at_end.ensures.over.1 each (before.2 each is)),
    )

pub returns-clause-places : goal.returns-clause-places
returns-clause-places g c =
    let gives = c.into_iter-end-iterator.ensures.into_iter_gives in
    let end = YieldsList-end (YieldsList-from_vec {s = c.into_iter-end-iterator.result} c.args.ends.items gives.0
    (let same = gives.1 in omega (arith, same))) c.loop-end.yielded
    c.loop-end.end-iterator c.loop-end.yielded_by c.next.result c.next.new.self c.in-None.is c.next.ensures.steps in
    subst (λ ends. AreAtEndsIn c.args.ground c.args.dir.now c.args.tied.now ends c.loop-end.found.items)
    (sym (map-id c.loop-end.yielded) ∙ end.0) c.loop-end.invariant.0
