use Rattle.std.proofs.lemmas.Result.{on_ok_weaker}
use Rattle.hc_abs_rw.specs.Substitutions.{scheme_plan}
use Rattle.hc_abs_rw.proofs.Drafting.{on_led}
use Rattle.hc_abs_rw.proofs.Leading.{scheme_led}
use Rattle.hc_abs_rw.proofs.placing.scheme_way.Goals as goal

pub returns : goal.returns
returns c =
    on_ok_weaker c.path_way.result (λ led.
    on_led c.args.task.now scheme_plan c.args.draft.now c.on-draft.result _ _ _ _ c.in-Some.is c.on-draft.ensures
    (scheme_led c.args.task.now c.on-draft.result c.scheme.result.now c.in_ok-ways.ways _ _ _ c.scheme.ensures
    c.in_ok-ways.ensures (c.in_ok-outside_way.ensures c.args.task.now) led)) c.path_way.ensures
