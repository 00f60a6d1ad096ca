use Rattle.hc_dfa.proofs.Common.{◌≡◌, ℕ, ◌<◌, slice_get, slice_index, vec_len, Some, List, IsColumn}
use Rattle.hc_dfa.proofs.coarse.column_numbers.Given as goal

abbrev pub invariant-loop-byte : goal.invariant-loop-byte
invariant-loop-byte l = record {
  len : vec_len l.numbers ≡ l.byte-index;
  each : (k : ℕ) → k < l.byte-index → (column : List ℕ)
      × (slice_get l.columns.keys (slice_index l.numbers.items k) ≡ Some column)
      × IsColumn l.a (slice_index l.bytes k) column;
}
