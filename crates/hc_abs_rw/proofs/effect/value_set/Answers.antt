use Rattle.std.proofs.lemmas.Result.{IfOk-weaker}
use Rattle.hc_abs_rw.specs.Known.{frame_at}
use Rattle.hc_abs_rw.proofs.Effects.{value_by}
use Rattle.hc_abs_rw.proofs.effect.value_set.Goals as goal

pub returns-in_ok-elements-in-Some : goal.returns-in_ok-elements-in-Some
returns-in_ok-elements-in-Some g c =
    IfOk-weaker c.untested.result _ _ (λ set.
    value_by (frame_at g.S.Surroundings.kind g.S.Surroundings.values c.args.frame.now) c.args.frame.now.client
    c.args.known.now c.args.value.now c.in-Some.template c.as_slice.result.now c.in_ok-elements-in-Some.elements.items
    c.deref.result.now set c.in-Some.is c.as_slice.ensures c.deref.ensures.value c.in_ok-elements-in-Some.ensures)
    c.untested.ensures
