use Rattle.std.proofs.lemmas.Result.{IfOk-weaker}
use Rattle.hc_abs_rw.specs.Known.{frame_at}
use Rattle.hc_abs_rw.proofs.Effects.{nothing_found}
use Rattle.hc_abs_rw.proofs.effect.substituted.Goals as goal

pub returns-in-None : goal.returns-in-None
returns-in-None g c =
    let frame = frame_at g.S.Surroundings.kind g.S.Surroundings.values c.args.frame.now in
    let client = c.args.frame.now.client in
    IfOk-weaker c.unchanged.result _ _ (λ found are.
    nothing_found frame client c.args.setting c.args.known found.items c.args.rule.now.flags c.args.rule.now.subst
    c.in-None.is (are client frame.caller)) c.unchanged.ensures
