use Rattle.std.proofs.Common.{rules}
use Rattle.hc_kept_lines.proofs.Cutting.{ReadTo-more}
use Rattle.hc_kept_lines.proofs.read.read_runs.Goals as goal

pub lines-preserved : goal.lines-preserved
lines-preserved g c = (
  search rules,
  ReadTo-more c.args.text.now c.lines.rest.now c.split_line.result.1.now c.lines.runs.items c.push.new.self.items
      c.in_ok-run.run' c.line_len.result c.args.bytes.now c.lines.bytes c.read_run.new.bytes c.lines.invariant.1
      (rw c.as_bytes.ensures.value at c.line_len.ensures) (rw c.split_line.ensures.line at c.in_ok-run.ensures.kept)
      c.in_ok-push.ensures.items (rw c.split_line.ensures.line at c.read_run.ensures.bytes) c.split_line.ensures.behind,
)
