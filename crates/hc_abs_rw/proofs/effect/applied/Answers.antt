use Rattle.std.proofs.lemmas.Result.{IfOk-weaker}
use Rattle.hc_abs_rw.specs.Known.{frame_at}
use Rattle.hc_abs_rw.proofs.Effects.{applied_found}
use Rattle.hc_abs_rw.proofs.effect.applied.Goals as goal

pub returns : goal.returns
returns g c =
    IfOk-weaker c.answered.result _ _ (λ found.
    applied_found (frame_at g.S.Surroundings.kind g.S.Surroundings.values c.args.frame.now) c.args.frame.now.client
    c.args.rule.now c.args.setting c.as_slice.result.now c.args.known c.in_ok-known.known found.items c.as_slice.ensures
    c.in_ok-known.ensures) c.answered.ensures
