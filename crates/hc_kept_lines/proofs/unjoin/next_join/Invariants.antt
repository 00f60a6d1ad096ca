use Rattle.std.proofs.Common.{◌≡◌, ◌-◌, ◌++◌, take, drop}
use Rattle.hc_lines.specs.Logical.{unjoined}
use Rattle.hc_kept_lines.proofs.unjoin.next_join.Given as goal

-- no join begins before the last byte that was looked at
abbrev pub invariant-loop-at : goal.invariant-loop-at
invariant-loop-at l = unjoined l.bytes ≡ take (l.at - 1) l.bytes ++ unjoined (drop (l.at - 1) l.bytes)
