use Rattle.hc_serve.proofs.Common.{ap, ran_leaves}
use Rattle.hc_serve.proofs.Trees.{treed_on}
use Rattle.hc_serve.specs.Passing.{followed_by, passed_from}
use Rattle.hc_serve.proofs.pass.passed_from.Goals as goal

pub returns-in-Ok : goal.returns-in-Ok
unfolding passed_from
returns-in-Ok c =
    treed_on _ _ _ _ _ _ _ _ _ c.in-Ok.ensures
    (ran_leaves _ _ _ _ _ (ap (λ require. followed_by require c.in-Ok.pass) c.tree_of.ensures))
