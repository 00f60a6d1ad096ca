use Rattle.hc_serve.proofs.Common.{sym, ◌∙◌}
use Rattle.hc_serve.proofs.Joining.{one_more_needs}
use Rattle.hc_serve.specs.Needs.{places_in, places_joined}
use Rattle.hc_serve.proofs.needs.places_of.Goals as goal

pub loop-join-preserved : goal.loop-join-preserved
loop-join-preserved c =
    c.in_ok-list.ensures
    ∙ (λ i. places_joined (c.loop-join.invariant i) (places_in (c.join-item.is i).tree) (c.join-item.is i).how)
    ∙ sym (one_more_needs c.args.joins.now c.loop-join.join-index c.join-item.result c.loop-join-test.true)
