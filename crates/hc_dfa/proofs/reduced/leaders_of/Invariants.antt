use Rattle.std.proofs.Common.{◌≡◌, ℕ, ◌+◌, ◌≤◌, ◌<◌, length, slice_index}
use Rattle.hc_dfa.proofs.reduced.leaders_of.Given as goal

abbrev pub invariant-loop-later : goal.invariant-loop-later
invariant-loop-later l = record {
  len : length l.leaders.items ≡ length l.blocks;
  bound : (block : ℕ) → block < length l.blocks → slice_index l.leaders.items block < length l.blocks;
  block : (s : ℕ) → s < length l.blocks → length l.blocks ≤ s + l.later
      → slice_index l.blocks (slice_index l.leaders.items (slice_index l.blocks s)) ≡ slice_index l.blocks s;
}
