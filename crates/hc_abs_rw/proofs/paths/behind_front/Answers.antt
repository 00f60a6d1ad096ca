use Rattle.std.proofs.Common.{◌∙◌, sym}
use Rattle.std.proofs.lemmas.Result.{on_ok_weaker}
use Rattle.hc_abs_rw.proofs.Leading.{behind_nothing, behind_front}
use Rattle.hc_abs_rw.proofs.paths.behind_front.Goals as goal

pub returns-then-is_empty : goal.returns-then-is_empty
returns-then-is_empty c =
    on_ok_weaker c.placed.result
    (behind_nothing c.args.task.now c.args.draft _ _ c.args.front.now c.bytes_of-front.result.now
    c.bytes_of-front.ensures.value (sym c.if-is_empty.ensures)) c.placed.ensures

pub returns : goal.returns
returns c =
    on_ok_weaker c.placed-2.result
    (behind_front c.args.task.now c.args.draft c.with_text.result c.deref.result c.in_ok-texts.texts c.in_ok-paths.paths
    _ _
    c.with_text.ensures (c.deref.ensures.value ∙ c.in_ok-text.ensures) c.in_ok-texts.ensures c.args.front.now
    c.bytes_of-front.result.now c.bytes_of-front.ensures.value (sym c.if-is_empty.ensures)
    c.bytes_of-front.ensures.bytes c.in_ok-paths.ensures) c.placed-2.ensures
