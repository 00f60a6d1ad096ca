use Rattle.hc_dfa.proofs.Common.{◌<◌, List, ℕ, ◌++◌, slice_index, states, IsWalk, NONE}
use Rattle.hc_dfa.proofs.leasts.least.Given as goal

abbrev pub invariant-bytes : goal.invariant-bytes
invariant-bytes l = record {
  state : l.state < states l.a;
  some : slice_index l.distances.items l.state < NONE;
  walk : (rest : List ℕ) → IsWalk l.a l.distances.items l.state rest
      → IsWalk l.a l.distances.items 0 (l.bytes.items ++ rest);
}

abbrev pub decreases-bytes : goal.decreases-bytes
decreases-bytes l = slice_index l.distances.items l.state
