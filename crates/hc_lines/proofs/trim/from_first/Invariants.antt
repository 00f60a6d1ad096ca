use Rattle.hc_lines.proofs.Common.{◌≡◌, length, Utf8, shadow, from_first}
use Rattle.hc_lines.proofs.trim.from_first.Given as goal

abbrev pub invariant-front : goal.invariant-front
invariant-front l = shadow (Utf8 l.rest) × (from_first l.rest ≡ from_first l.fn.text)

abbrev pub decreases-front : goal.decreases-front
decreases-front l = length l.rest
