use Rattle.hc_include.proofs.Common.{arith, ap, refl, sym, ◌∙◌, in_order, text_at, item_faults, item_more}
use Rattle.hc_include.proofs.Common.{ran_leaves, ran_on, behind_change, file_read, line_read, missing, reader_in}
use Rattle.hc_include.proofs.Common.{Stopped}
use Rattle.hc_include.proofs.Counting.{counts_then, rose_then}
use Rattle.hc_include.proofs.Ending.{ending_on, stopped_behind}
use Rattle.hc_include.proofs.Texts.{as_read, file_within, no_files, no_text, refused_line, refused_text, some_text}
use Rattle.hc_include.proofs.Texts.{text_lines}
use Rattle.hc_include.proofs.files.+files.Goals as goal

pub read_file-returns-in-Ok-clause-read : goal.read_file-returns-in-Ok-clause-read
unfolding file_read
read_file-returns-in-Ok-clause-read g t c = ran_on _ _ _ _ _ _ _ _ _ _ c.in-Ok.ensures (ap text_at c.as_bytes.ensures)
    c.read_found.ensures.read refl

pub read_files-returns-then-around-eq0-clause-read : goal.read_files-returns-then-around-eq0-clause-read
read_files-returns-then-around-eq0-clause-read g t c =
    let none = ap (λ room. in_order (reader_in room c.args.around.now.chain) c.args.reading c.args.files.now)
    c.if-around-eq0.true ∙ no_files c.args.around.now.chain c.args.reading c.args.files.now in
    as_read _ _ _ _ _ _ (sym none) (ran_leaves Stopped _ _ _ _ refl)

pub read_files-returns-in_err-reading-clause-read : goal.read_files-returns-in_err-reading-clause-read
read_files-returns-in_err-reading-clause-read g t c =
    item_faults (reader_in c.args.around.now.room c.args.around.now.chain) c.loop-file.reading c.file-item.result
    c.args.files.now c.loop-file.file-index _ _ _ _ _ _ _ _ c.loop-file.invariant.read c.loop-file-test.true
    c.file-item.is
    c.in_err-reading.ensures.read
    (file_within _ _ _ _ _ (omega (arith, c.if-around-eq0.false)) (rw c.as_slice.ensures at c.in_ok-inner.ensures))
    c.from_residual-in_err-reading.ensures.1

pub read_files-loop-file-preserved : goal.read_files-loop-file-preserved
read_files-loop-file-preserved g t c = record {
  read = item_more (reader_in c.args.around.now.room c.args.around.now.chain) c.loop-file.reading _ c.file-item.result
      c.args.files.now c.loop-file.file-index _ _ _ _ _ _ c.loop-file.invariant.read c.loop-file-test.true
      c.file-item.is
      c.in_ok-reading.ensures.read
      (file_within _ _ _ _ _ (omega (arith, c.if-around-eq0.false))
      (rw c.as_slice.ensures at c.in_ok-inner.ensures));
  bytes = rose_then _ _ _ _ _ _ c.loop-file.invariant.bytes c.in_ok-reading.ensures.bytes;
}

pub read_line-returns-in-Ok-clause-read : goal.read_line-returns-in-Ok-clause-read
read_line-returns-in-Ok-clause-read g t c =
    as_read _ _ _ _ _ _
    (ap (behind_change c.args.around.now (reader_in c.args.around.now.room c.args.around.now.chain) c.args.reading
    c.args.line.now) (sym c.in-Ok.ensures)) c.read_behind.ensures.read

pub read_line-returns-in-Err-Refused-clause-read : goal.read_line-returns-in-Err-Refused-clause-read
read_line-returns-in-Err-Refused-clause-read g t c =
    as_read _ _ _ _ _ _ (refused_line _ _ _ _ _ _ (rw c.in-Err-Refused.field-0-is at c.in-Err-Refused.ensures))
    (c.stop.ensures.read _ _)

pub read_behind-returns-in-Err-Refused-clause-read : goal.read_behind-returns-in-Err-Refused-clause-read
unfolding behind_change
read_behind-returns-in-Err-Refused-clause-read g t c =
    stopped_behind _ _ _ _ _ _ _ _ (rw c.in-Err-Refused.field-0-is at c.in-Err-Refused.ensures)
    (c.stop.ensures.read _ _)

pub read_behind-returns-clause-read : goal.read_behind-returns-clause-read
unfolding behind_change
read_behind-returns-clause-read g t c = ran_on _ _ _ _ _ _ _ _ _ _ (ending_on _ _ _ _ _ _ c.in-Ok.ensures) refl
    c.read_files.ensures.read
    (ap (in_order (reader_in c.args.around.now.room c.args.around.now.chain) c.in_ok-reading.reading) c.as_slice.ensures
    ∙ ap (λ reading. in_order (reader_in c.args.around.now.room c.args.around.now.chain) reading c.in-Ok.files)
    c.in_ok-reading.ensures)

pub read_lines-returns-in_err-reading-clause-read : goal.read_lines-returns-in_err-reading-clause-read
read_lines-returns-in_err-reading-clause-read g t c =
    item_faults (line_read c.args.around.now (reader_in c.args.around.now.room c.args.around.now.chain))
    c.loop-line.reading c.line-item.result c.args.lines.now c.loop-line.line-index _ _ _ _ _ _ _ _
    c.loop-line.invariant.read c.loop-line-test.true c.line-item.is
    c.in_err-reading.ensures.read refl c.from_residual.ensures.1

pub read_lines-loop-line-preserved : goal.read_lines-loop-line-preserved
read_lines-loop-line-preserved g t c = record {
  read = item_more (line_read c.args.around.now (reader_in c.args.around.now.room c.args.around.now.chain))
      c.loop-line.reading _ c.line-item.result c.args.lines.now c.loop-line.line-index _ _ _ _ _ _
      c.loop-line.invariant.read c.loop-line-test.true c.line-item.is
      c.in_ok-reading.ensures.read refl;
  bytes = rose_then _ _ _ _ _ _ c.loop-line.invariant.bytes c.in_ok-reading.ensures.bytes;
}

pub read_found-returns-in_default-clause-read : goal.read_found-returns-in_default-clause-read
read_found-returns-in_default-clause-read g t c =
    as_read _ _ _ _ _ _ (no_text _ _ _ _ _ _ c.in_default.ensures (c.missing.ensures ∙ ap missing c.kind.ensures))
    (c.stop.ensures.read _ _)

pub read_found-returns-clause-read : goal.read_found-returns-clause-read
read_found-returns-clause-read g t c =
    as_read _ _ _ _ _ _ (some_text _ _ _ _ _ _ c.in-Some.ensures) c.read_text.ensures.read

pub read_text-returns-in-Ok-clause-read : goal.read_text-returns-in-Ok-clause-read
read_text-returns-in-Ok-clause-read g t c =
    as_read _ _ _ _ _ _
    (text_lines _ _ _ _ _ _ c.in-Ok.ensures.lines (c.with_room-reading.ensures ∙ c.in_ok-reading.ensures))
    (rw c.deref-in-Ok.ensures.value at c.read_lines.ensures.read)

pub read_text-returns-in-Err-Refused-clause-read : goal.read_text-returns-in-Err-Refused-clause-read
read_text-returns-in-Err-Refused-clause-read g t c =
    as_read _ _ _ _ _ _
    (refused_text _ _ _ _ _ _ _ (rw c.in-Err-Refused.field-0-is at c.in-Err-Refused.ensures.lines) c.rule.ensures
    c.in_ok-reading.ensures) (c.stop.ensures.read _ _)

pub read_text-returns-in-Err-Refused-clause-bytes : goal.read_text-returns-in-Err-Refused-clause-bytes
read_text-returns-in-Err-Refused-clause-bytes g t c =
    let later = ap (λ reading. reading.bytes) c.in_ok-reading.ensures in
    counts_then _ _ _ _ _
    (record {
      same = omega (arith, later, c.ruled_lines.ensures.bytes);
      rise = omega (arith, c.ruled_lines.ensures.bytes);
    }) (c.stop.ensures.bytes c.ruled_lines.new.bytes)
