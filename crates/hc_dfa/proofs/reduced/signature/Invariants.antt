use Rattle.hc_dfa.proofs.Common.{◌≡◌, ℕ, ◌<◌, slice_index, length, value_on}
use Rattle.hc_dfa.proofs.reduced.signature.Given as goal

abbrev pub invariant-loop-byte : goal.invariant-loop-byte
invariant-loop-byte l = record {
  len : length l.signature ≡ l.byte-index;
  steps : (k : ℕ) → k < l.byte-index → slice_index l.signature k ≡ value_on l.a l.blocks l.state
      (slice_index l.bytes k);
}
