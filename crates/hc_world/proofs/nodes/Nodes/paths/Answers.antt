use Rattle.hc_world.proofs.Common.{◌∙◌, get, subst}
use Rattle.std.specs.Map.Iter.{deref}
use Rattle.std.proofs.lemmas.Map.Iter.{iter_end}
use Rattle.hc_world.specs.Places.{HasUtf8, is_listed}
use Rattle.hc_world.proofs.Listed.{all_keys, one_more, utf8_texts}
use Rattle.hc_world.proofs.nodes.Nodes.paths.Goals as goal

pub loop-path-preserved : goal.loop-path-preserved
loop-path-preserved c =
    one_more (λ path. is_listed c.args.kind (get c.args.self.now path)) c.loop-path.yielded c.in-Some.path
    c.deref.result.now c.loop-path.paths _ c.deref.ensures.value c.in_ok-push_listed.ensures c.loop-path.invariant

pub returns-clause-paths : goal.returns-clause-paths
returns-clause-paths c =
    let end = iter_end deref _ _ _ _ _ _
    (c.into_iter-path-iterator.ensures.into_iter_gives ∙ c.keys-path-items.ensures.rest) c.loop-path.yielded_by
    c.in-None.is c.next.ensures.steps in
    all_keys (λ path. is_listed c.args.kind (get c.args.self.now path)) c.loop-path.yielded c.loop-path.paths
    c.self.inside.entries.entries c.args.self.now c.keys-path-items.ensures.ordered c.self.view_is end.0
    c.loop-path.invariant

pub returns-clause-texts : goal.returns-clause-texts
returns-clause-texts c = subst HasUtf8 c.self.view_is (utf8_texts c.self.inside.entries.entries)

pub returns-in_err-push_listed-clause-texts : goal.returns-in_err-push_listed-clause-texts
returns-in_err-push_listed-clause-texts c = subst HasUtf8 c.self.view_is (utf8_texts c.self.inside.entries.entries)
