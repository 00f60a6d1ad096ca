use Rattle.std.proofs.lemmas.Iterator.Adapters.{YieldsList-from_vec}
use Rattle.std.proofs.lemmas.Iterator.Consumers.{YieldsList-end}
use Rattle.std.proofs.lemmas.List.{map-id}
use Rattle.hc_abs_restart.proofs.Common.{[], ◌∙◌, ◌∷◌, arith, subst, sym}
use Rattle.hc_plan.proofs.Coded.{next_added}
use Rattle.hc_plan.specs.Coded.{AreNext}
use Rattle.hc_abs_map.specs.Mapped.{MappedFits}
use Rattle.hc_abs_restart.specs.Following.{behind_path}
use Rattle.hc_abs_restart.specs.Restarted.{RestartedFits}
use Rattle.hc_abs_restart.proofs.restart.all_behind.Goals as goal

pub loop-one-preserved : goal.loop-one-preserved
loop-one-preserved c client =
    next_added (MappedFits client) (RestartedFits client) (behind_path c.args.restart) c.loop-one.yielded c.in-Some.one
    c.loop-one.found.items c.push.new.self.items (c.loop-one.invariant client)
    (c.in_ok-made.made ∷ [], c.in_ok-push.ensures.items, c.in_ok-made.ensures client)

pub returns : goal.returns
returns c client =
    let gives = c.into_iter-one-iterator.ensures.into_iter_gives in
    let end = YieldsList-end (YieldsList-from_vec {s = c.into_iter-one-iterator.result} c.args.mapped.items gives.0
    (let same = gives.1 in omega (arith, same))) c.loop-one.yielded
    c.loop-one.one-iterator c.loop-one.yielded_by c.next.result c.next.new.self c.in-None.is c.next.ensures.steps in
    subst (λ mapped. AreNext (MappedFits client) (RestartedFits client) (behind_path c.args.restart) mapped
    c.loop-one.found.items) (sym (map-id c.loop-one.yielded) ∙ end.0) (c.loop-one.invariant client)
