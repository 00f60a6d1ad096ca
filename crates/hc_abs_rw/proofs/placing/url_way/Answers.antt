use Rattle.std.proofs.Common.{sym}
use Rattle.std.proofs.lemmas.Result.{on_ok_weaker}
use Rattle.hc_abs_rw.specs.Substitutions.{url_plan}
use Rattle.hc_abs_rw.proofs.Drafting.{on_led}
use Rattle.hc_abs_rw.proofs.Leading.{url_asked}
use Rattle.hc_abs_rw.proofs.placing.url_way.Goals as goal

pub returns : goal.returns
returns c =
    on_ok_weaker c.own_ways.result (λ led.
    on_led c.args.task.now url_plan c.args.draft.now c.on-draft.result _ _ _ _ c.in-Some.is c.on-draft.ensures
    (url_asked c.args.task.now c.on-draft.result _ _ (sym c.if-redirects.ensures) led)) c.own_ways.ensures
