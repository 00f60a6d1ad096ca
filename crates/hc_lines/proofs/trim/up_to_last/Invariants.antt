use Rattle.hc_lines.proofs.Common.{◌≡◌, length, Utf8, shadow, up_to_last}
use Rattle.hc_lines.proofs.trim.up_to_last.Given as goal

abbrev pub invariant-back : goal.invariant-back
invariant-back l = shadow (Utf8 l.rest) × (up_to_last l.rest ≡ up_to_last l.fn.text)

abbrev pub decreases-back : goal.decreases-back
decreases-back l = length l.rest
