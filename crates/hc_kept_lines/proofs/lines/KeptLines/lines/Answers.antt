use Rattle.std.proofs.Common.{arith, rules}
use Rattle.hc_kept_lines.proofs.Walking.{ToldTo-next, ToldTo-start, next_run, refused_by}
use Rattle.hc_kept_lines.proofs.lines.KeptLines.lines.Goals as goal

pub loop-run-init : goal.loop-run-init
loop-run-init c = (
  c.utf8.text,
  rw (c.deref-run-items.ensures.value, c.new-lines.ensures.items)
      (ToldTo-start c.args.kind c.args.text.now c.args.self.now.runs.items c.requires.kept),
)

pub split_line-requires-clause-inside : goal.split_line-requires-clause-inside
split_line-requires-clause-inside c =
    (next_run c.loop-run.rest.now c.deref-run-items.result.now c.loop-run.run-index c.loop-run.invariant.1.back
    (omega arith)).fits

pub split_line-requires-clause-parts : goal.split_line-requires-clause-parts
split_line-requires-clause-parts c =
    (next_run c.loop-run.rest.now c.deref-run-items.result.now c.loop-run.run-index c.loop-run.invariant.1.back
    (omega arith)).here.ended

pub told_in-requires-clause-span : goal.told_in-requires-clause-span
told_in-requires-clause-span c =
    rw c.split_line.ensures.line
    (next_run c.loop-run.rest.now c.deref-run-items.result.now c.loop-run.run-index c.loop-run.invariant.1.back
    (omega arith)).here.read.span

pub loop-run-preserved : goal.loop-run-preserved
loop-run-preserved c = (
  search rules,
  ToldTo-next c.args.kind c.args.text.now c.deref-run-items.result.now c.loop-run.run-index c.loop-run.number
      c.loop-run.place c.loop-run.rest.now c.loop-run.lines.items c.keep.new.lines.items c.in-Ok.line
      c.split_line.result.1.now c.loop-run.invariant.1 (omega arith) (rw c.split_line.ensures.line at c.in-Ok.ensures)
      c.in_ok-keep.ensures c.split_line.ensures.behind,
)

pub returns-in-Err : goal.returns-in-Err
returns-in-Err c =
    refused_by c.args.kind c.args.text.now c.deref-run-items.result.now c.loop-run.run-index c.loop-run.number
    c.loop-run.place c.loop-run.rest.now c.loop-run.lines.items c.in-Err.fault c.loop-run.invariant.1 (omega arith)
    (rw c.split_line.ensures.line at c.in-Err.ensures)
