use Rattle.hc_dfa.proofs.Common.{◌≡◌, ◌<◌, ℕ, slice_index, vec_len, class_of}
use Rattle.hc_dfa.proofs.coarse.byte_numbers.Given as goal

abbrev pub invariant-loop-byte : goal.invariant-loop-byte
invariant-loop-byte l = record {
  len : vec_len l.numbers ≡ l.byte;
  each : (byte : ℕ) → byte < l.byte → slice_index l.numbers.items byte ≡ slice_index l.columns.items
      (class_of l.classes byte);
}
