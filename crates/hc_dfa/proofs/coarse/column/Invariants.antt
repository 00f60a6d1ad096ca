use Rattle.hc_dfa.proofs.Common.{◌≡◌, ℕ, ◌<◌, slice_index, length, next_state}
use Rattle.hc_dfa.proofs.coarse.column.Given as goal

abbrev pub invariant-loop-state : goal.invariant-loop-state
invariant-loop-state l = record {
  len : length l.column ≡ l.state;
  each : (s : ℕ) → s < l.state → slice_index l.column s ≡ next_state l.a s l.byte;
}
