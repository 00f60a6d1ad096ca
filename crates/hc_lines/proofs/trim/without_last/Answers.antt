use Rattle.std.proofs.Common.{sym, ◌∙◌}
use Rattle.hc_lines.proofs.Ends.{ends_with-at, without_last-ended, without_last-same}
use Rattle.hc_lines.proofs.trim.without_last.Goals as goal

pub cut_before-requires-clause-ascii : goal.cut_before-requires-clause-ascii
cut_before-requires-clause-ascii c =
    λ _. rw (ends_with-at c.args.byte c.args.text.now
    (rw c.as_bytes.ensures.value at (sym c.ends_with.ensures ∙ c.if-ends_with.true))) c.requires

pub returns-then-ends_with : goal.returns-then-ends_with
returns-then-ends_with c = c.cut_before.ensures.front
    ∙ sym (without_last-ended c.args.byte c.args.text.now
    (rw c.as_bytes.ensures.value at (sym c.ends_with.ensures ∙ c.if-ends_with.true)))

pub returns-else-ends_with : goal.returns-else-ends_with
returns-else-ends_with c =
    sym (without_last-same c.args.byte c.args.text.now
    (rw c.as_bytes.ensures.value at (sym c.ends_with.ensures ∙ c.if-ends_with.false)))
