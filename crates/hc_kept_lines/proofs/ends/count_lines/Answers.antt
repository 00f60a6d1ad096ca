use Rattle.std.proofs.Common.{sym, ◌∙◌}
use Rattle.hc_kept_lines.proofs.Ending.{count-ended, count-open}
use Rattle.hc_kept_lines.proofs.ends.count_lines.Goals as goal

pub returns-then-ends_with : goal.returns-then-ends_with
returns-then-ends_with c = c.count_ends-ends.ensures
    ∙ sym (count-ended c.args.text.now (sym c.ends_with.ensures ∙ c.if-ends_with.true))

pub returns : goal.returns
returns c = count-open c.args.text.now _ (sym c.is_empty.ensures ∙ c.if-is_empty.false)
    (sym c.ends_with.ensures ∙ c.if-ends_with.false) c.count_ends-ends.ensures
