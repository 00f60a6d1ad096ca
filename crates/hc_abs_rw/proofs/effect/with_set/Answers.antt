use Rattle.std.proofs.Common.{refl}
use Rattle.hc_abs_rw.specs.Known.{frame_at}
use Rattle.hc_abs_rw.proofs.Effects.{one_stored, variable_set}
use Rattle.hc_abs_rw.proofs.effect.with_set.Goals as goal

pub returns : goal.returns
returns g c plan found more =
    let name = c.args.set.now.name in
    let values = c.in_ok-values.values in
    variable_set (frame_at g.S.Surroundings.kind g.S.Surroundings.values c.args.frame.now) c.args.frame.now.client
    c.args.known _ name values c.in_ok-left.left
    (one_stored c.args.known name c.in_ok-clone.field-0 values c.in_ok-left.left _ _ _ c.new-stored.ensures.items
    c.in_ok-push.ensures.items c.deref.ensures.value c.in_ok-clone.ensures.cases c.in_ok-left.ensures)
    (record { cell = refl; ties = refl; groups = refl; conds = refl }) plan found more c.args.set.now.value
    c.in_ok-values.ensures
