use Rattle.std.proofs.Common.{◌≡◌, ◌+◌}
use Rattle.hc_lines.proofs.logical.tick_each.Given as goal

abbrev pub invariant-loop-byte : goal.invariant-loop-byte
invariant-loop-byte g l = l.bytes ≡ l.fn.bytes + l._byte-index
