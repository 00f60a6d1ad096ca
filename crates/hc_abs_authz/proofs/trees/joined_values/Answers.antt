use Rattle.std.proofs.Common.{◌∙◌, ap, subst}
use Rattle.hc_abs_authz.specs.Asking.{TreeSays}
use Rattle.hc_abs_authz.specs.Leaves.{AreValues, values_behind}
use Rattle.hc_abs_authz.proofs.TreeSets.{next_join}
use Rattle.hc_abs_authz.proofs.trees.joined_values.Goals as goal
use Rattle.hc_model.specs.declared.authorization.Join.{Join}

pub loop-join-preserved : goal.loop-join-preserved
loop-join-preserved c =
    next_join c.args.asking c.args.joins.now c.loop-join.join-index c.join-item.result c.loop-join.so_far
    c.in_ok-own.own c.behind.result c.loop-join-test.true c.loop-join.invariant
    (subst (λ (join : Join). AreValues (TreeSays c.args.asking join.tree) c.in_ok-own.own) c.join-item.is
    c.in_ok-own.ensures)
    (c.behind.ensures ∙ ap (λ (join : Join). values_behind c.loop-join.so_far c.in_ok-own.own join.how) c.join-item.is)
