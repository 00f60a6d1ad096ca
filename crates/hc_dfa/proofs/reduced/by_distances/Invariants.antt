use Rattle.hc_dfa.proofs.Common.{◌≡◌, ℕ, ◌<◌, slice_index, vec_len}
use Rattle.hc_dfa.proofs.Merged.{IsPaired}
use Rattle.hc_dfa.proofs.reduced.by_distances.Given as goal

abbrev pub invariant-loop-state : goal.invariant-loop-state
invariant-loop-state l = record {
  len : vec_len l.blocks ≡ l.state;
  each : (s : ℕ) → s < l.state → IsPaired l.to_final.items l.pairs.keys s (slice_index l.blocks.items s);
}
