use Rattle.hc_dfa.proofs.Common.{◌≡◌, ◌≤◌, ℕ, ◌<◌, length, slice_get, slice_index, vec_len, Some}
use Rattle.hc_dfa.proofs.Common.{List}
use Rattle.hc_dfa.proofs.Common.{IsSignature}
use Rattle.hc_dfa.proofs.reduced.refine.Given as goal

abbrev pub invariant-loop-state : goal.invariant-loop-state
invariant-loop-state l = record {
  len : vec_len l.finer ≡ l.state;
  few : length l.signatures.keys ≤ l.state;
  each : (s : ℕ) → s < l.state → (signature : List ℕ)
      × (slice_get l.signatures.keys (slice_index l.finer.items s) ≡ Some signature)
      × IsSignature l.a l.bytes l.blocks s signature;
}
