use Rattle.hc_lines.proofs.Common.{sym, ◌∙◌, escapable_view}
use Rattle.hc_lines.proofs.WordsScan.{kept_step}
use Rattle.hc_lines.proofs.escape.Escapable.first_escape.Goals as goal

pub loop-index-preserved : goal.loop-index-preserved
loop-index-preserved c =
    c.loop-index.invariant ∙ kept_step (escapable_view c.args.self) c.args.bytes.now c.loop-index.index
    c.loop-index-test.true (sym c.begins.ensures.value ∙ c.if-begins.false)
