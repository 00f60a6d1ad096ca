use Rattle.std.proofs.Common.{sym, ◌∙◌}
use Rattle.hc_kept_lines.proofs.Trimming.{without_last-ended, without_last-same}
use Rattle.hc_kept_lines.proofs.read.without_last.Goals as goal

pub returns-then-ends_with : goal.returns-then-ends_with
returns-then-ends_with c =
    without_last-ended c.args.byte c.args.text.now (sym c.ends_with.ensures ∙ c.if-ends_with.true)

pub returns-else-ends_with : goal.returns-else-ends_with
returns-else-ends_with c =
    without_last-same c.args.byte c.args.text.now (sym c.ends_with.ensures ∙ c.if-ends_with.false)
