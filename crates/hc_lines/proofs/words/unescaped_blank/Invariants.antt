use Rattle.hc_lines.proofs.Common.{◌≡◌, ◌+◌, ◌-◌, ◌≤◌, drop, length, unescaped_blank}
use Rattle.hc_lines.proofs.words.unescaped_blank.Given as goal

-- none so far
abbrev pub invariant-loop-index : goal.invariant-loop-index
invariant-loop-index l = (l.index ≤ length l.bytes)
    × (unescaped_blank l.bytes ≡ l.index + unescaped_blank (drop l.index l.bytes))

abbrev pub decreases-loop-index : goal.decreases-loop-index
decreases-loop-index l = length l.bytes - l.index
