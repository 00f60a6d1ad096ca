use Rattle.std.proofs.Common.{sym, ◌∙◌}
use Rattle.hc_kept_lines.proofs.Editing.{lines_idle}
use Rattle.hc_kept_lines.proofs.lines.KeptLines.edited.Goals as goal

pub returns-then-is_idle-clause-lines : goal.returns-then-is_idle-clause-lines
returns-then-is_idle-clause-lines g c =
    lines_idle c.args.old.now c.args.new.now c.args.from c.args.to c.args.self.now _ c.requires.range
    (sym c.is_idle.ensures ∙ c.if-is_idle.true) c.requires.lines (c.in_ok-runs.ensures ∙ c.deref.ensures.value)
