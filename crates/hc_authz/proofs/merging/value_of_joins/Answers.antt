use Rattle.std.proofs.Common.{Some, sym, ap, ◌∙◌}
use Rattle.hc_authz.proofs.Joining.{one_more_says}
use Rattle.hc_authz.specs.Values.{value, value_behind}
use Rattle.hc_authz.proofs.merging.value_of_joins.Goals as goal

pub loop-join-preserved : goal.loop-join-preserved
loop-join-preserved c =
    one_more_says c.args.caller.now c.args.joins.now c.loop-join.join-index c.join-item.result c.loop-join-test.true
    ∙ (λ i. Some (value_behind (c.loop-join.invariant i) (value c.args.caller.now (sym c.join-item.is i).tree)
    (sym c.join-item.is i).how))
    ∙ ap (λ own. Some (value_behind c.loop-join.so_far own c.join-item.result.how)) (sym c.value.ensures)
    ∙ ap Some (sym c.value_behind.ensures)
