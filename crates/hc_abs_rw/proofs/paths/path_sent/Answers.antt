use Rattle.std.proofs.Common.{◌∙◌}
use Rattle.std.proofs.lemmas.Result.{on_ok_weaker}
use Rattle.hc_abs_rw.proofs.Leading.{sent_in}
use Rattle.hc_abs_rw.proofs.paths.path_sent.Goals as goal

pub returns : goal.returns
returns c =
    on_ok_weaker c.sent-2.result
    (sent_in c.args.task.now c.args.draft c.with_text.result c.deref.result c.in_ok-texts.texts c.in_ok-paths.paths _ _
    c.with_text.ensures (c.deref.ensures.value ∙ c.in_ok-text.ensures) c.in_ok-texts.ensures c.in-Some.engine
    c.in-Some.is
    c.base_of-base.ensures c.in_ok-paths.ensures) c.sent-2.ensures
