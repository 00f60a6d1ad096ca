use Rattle.std.proofs.Common.{rules}
use Rattle.hc_lines.proofs.Reading.{IsRead-next, IsRead-start}
use Rattle.hc_lines.proofs.logical.read_lines.Goals as goal

pub runs-init : goal.runs-init
runs-init c = (c.utf8.text, rw c.new-lines.ensures.items (IsRead-start c.args.file c.args.text.now))

pub runs-preserved : goal.runs-preserved
runs-preserved c = (
  search rules,
  IsRead-next c.args.file c.args.text.now c.runs.rest.now _ _ _ _ _ c.runs.lines.items _ c.in-Ok.line c.runs.invariant.1
      c.in-Some.ensures c.in-Ok.ensures c.in_ok-keep.ensures,
)
