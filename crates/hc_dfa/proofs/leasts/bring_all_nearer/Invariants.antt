use Rattle.hc_dfa.proofs.Common.{◌≡◌, ℕ, ◌+◌, ◌<◌, ◌≤◌, false, states, Bounds, IsSettled}
use Rattle.hc_dfa.proofs.leasts.bring_all_nearer.Given as goal

abbrev pub invariant-loop-later : goal.invariant-loop-later
invariant-loop-later l = record {
  bounds : Bounds l.a l.distances.items;
  settled : l.some ≡ false → (state : ℕ) → state < states l.a → states l.a ≤ state + l.later
      → IsSettled l.a l.distances.items state;
}
