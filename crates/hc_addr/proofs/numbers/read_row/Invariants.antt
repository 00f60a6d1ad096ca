use Rattle.hc_addr.proofs.Common.{◌≡◌, ◌==◌, ◌<◌, ◌≤◌, ◌^◌, length, drop, slice_split, base_of}
use Rattle.hc_addr.proofs.Common.{most_of, row_in, separator_of}
use Rattle.hc_addr.proofs.Rows.{on}
use Rattle.hc_addr.proofs.numbers.read_row.Given as goal

abbrev pub invariant-loop-piece : goal.invariant-loop-piece
invariant-loop-piece l = record {
  can : (goal.iterator-loop-piece).can_next l.piece-iterator;
  finite : (goal.iterator-loop-piece).is_finite l.piece-iterator;
  fits : l.row.value < base_of l.form ^ l.row.count;
  room : l.row.count ≤ most_of l.form;
  rest : on l.form l.row (drop (length l.yielded) (slice_split (λ b. b == separator_of l.form) l.text))
      ≡ row_in l.form l.text;
}
