use Rattle.hc_lines.proofs.Common.{◌≡◌, drop, skip_blanks}
use Rattle.std.specs.Str.{IsCharBoundary}
use Rattle.hc_lines.proofs.words.skip_blanks.Given as goal

-- blanks so far
abbrev pub invariant-loop-index : goal.invariant-loop-index
invariant-loop-index l = IsCharBoundary l.text l.index × (skip_blanks l.text ≡ skip_blanks (drop l.index l.text))
