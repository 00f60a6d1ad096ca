use Rattle.std.proofs.Common.{◌∙◌}
use Rattle.std.proofs.lemmas.Result.{on_ok_weaker}
use Rattle.hc_abs_rw.proofs.Leading.{own_left_led}
use Rattle.hc_abs_rw.proofs.placing.own_way.Goals as goal

pub returns : goal.returns
returns c =
    on_ok_weaker c.left.result
    (own_left_led c.args.task.now c.on-draft.result c.with_text.result c.deref.result c.in_ok-texts.texts
    c.in_ok-paths.paths _ _ c.with_text.ensures (c.deref.ensures.value ∙ c.in_ok-text.ensures) c.in_ok-texts.ensures
    c.args.draft.now _ _ _ c.in-Some.is c.on-draft.ensures c.caller.ensures c.in_ok-paths.ensures) c.left.ensures
