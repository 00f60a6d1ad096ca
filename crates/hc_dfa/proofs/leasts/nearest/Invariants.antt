use Rattle.hc_dfa.proofs.Common.{◌≡◌, ℕ, ◌<◌, ◌≤◌, slice_index, value_on, NONE}
use Rattle.hc_dfa.proofs.leasts.nearest.Given as goal

abbrev pub invariant-loop-byte : goal.invariant-loop-byte
invariant-loop-byte l = record {
  least : (k : ℕ) → k < l.byte-index → l.nearest ≤ value_on l.a l.distances l.state (slice_index l.bytes k);
  some : l.nearest < NONE → (byte : ℕ) × (byte < 256) × (value_on l.a l.distances l.state byte ≡ l.nearest);
}
