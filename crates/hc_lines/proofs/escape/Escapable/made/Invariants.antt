use Rattle.hc_lines.proofs.Common.{shadow, Utf8, ◌≡◌, ◌++◌, length, string_bytes, unescaped, escapable_view}
use Rattle.hc_lines.proofs.escape.Escapable.made.Given as goal

-- what was made, and what the rest says
abbrev pub invariant-loop-front : goal.invariant-loop-front
invariant-loop-front l = shadow (Utf8 l.rest)
    × (string_bytes l.made ++ unescaped (escapable_view l.self) l.rest ≡ unescaped (escapable_view l.self) l.text)

abbrev pub decreases-loop-front : goal.decreases-loop-front
decreases-loop-front l = length l.rest
