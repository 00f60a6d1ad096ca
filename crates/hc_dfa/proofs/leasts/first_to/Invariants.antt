use Rattle.hc_dfa.proofs.Common.{◌≡◌, ℕ, ◌<◌, slice_index, value_on}
use Rattle.hc_dfa.proofs.leasts.first_to.Given as goal

abbrev pub invariant-loop-byte : goal.invariant-loop-byte
invariant-loop-byte l = (k : ℕ) → k < l.byte-index → value_on l.a l.distances l.state (slice_index l.bytes k)
    ≡ l.distance → ⊥
