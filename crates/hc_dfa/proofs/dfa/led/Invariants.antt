use Rattle.std.proofs.Common.{◌≡◌, ℕ, ◌<◌, slice_index, vec_len}
use Rattle.hc_dfa.proofs.dfa.led.Given as goal

abbrev pub invariant-loop-state : goal.invariant-loop-state
invariant-loop-state l = record {
  len : vec_len l.led ≡ l.state-index;
  each : (k : ℕ) → k < l.state-index → slice_index l.led.items k ≡ slice_index l.table (slice_index l.states k);
}
