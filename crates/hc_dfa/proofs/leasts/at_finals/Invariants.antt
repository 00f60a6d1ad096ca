use Rattle.hc_dfa.proofs.Common.{◌≡◌, ℕ, ◌<◌, slice_index, vec_len, if◌then◌else◌, is_final, NONE}
use Rattle.hc_dfa.proofs.leasts.at_finals.Given as goal

abbrev pub invariant-loop-state : goal.invariant-loop-state
invariant-loop-state l = record {
  len : vec_len l.distances ≡ l.state;
  each : (state : ℕ) → state < l.state → slice_index l.distances.items state
      ≡ (if is_final l.a state then 0 else NONE);
}
