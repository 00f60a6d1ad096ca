use Rattle.std.proofs.lemmas.Result.{IfOk-weaker}
use Rattle.hc_abs_rw.specs.Known.{frame_at}
use Rattle.hc_abs_rw.proofs.Effects.{status_found}
use Rattle.hc_abs_rw.proofs.effect.answered.Goals as goal

pub returns-in-Some : goal.returns-in-Some
returns-in-Some g c =
    let frame = frame_at g.S.Surroundings.kind g.S.Surroundings.values c.args.frame.now in
    let client = c.args.frame.now.client in
    IfOk-weaker c.unchanged.result _ _ (λ found are.
    status_found frame client c.args.setting c.args.known found.items c.args.rule.now _ c.in-Some.status
    c.in-Some.ensures (are client frame.caller)) c.unchanged.ensures
