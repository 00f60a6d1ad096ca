use Rattle.hc_lines.proofs.Common.{◌≡◌, ◌+◌, drop, position_or_len, is_blank}
use Rattle.hc_lines.proofs.words.first_blank.Given as goal

-- none so far
abbrev pub invariant-loop-index : goal.invariant-loop-index
invariant-loop-index l = position_or_len is_blank l.bytes ≡ l.index + position_or_len is_blank (drop l.index l.bytes)
