use Rattle.std.proofs.Common.{◌≡◌, ◌<◌, ◌≤◌, ℕ, false, length, take}
use Rattle.hc_kept_lines.specs.Edit.{is_ended}
use Rattle.hc_kept_lines.proofs.places.open_start.Given as goal

abbrev pub invariant-open : goal.invariant-open
invariant-open l = (l.end ≤ length l.text)
    × ((k : ℕ) → l.end < k → k ≤ length l.text → is_ended (take k l.text) ≡ false)

abbrev pub decreases-open : goal.decreases-open
decreases-open l = l.end
