use Rattle.hc_match.proofs.Common.{◌≡◌, drop, held_over, nothing_held}
use Rattle.hc_match.proofs.captures.Captures.get.Given as goal

abbrev pub invariant-loop-setting : goal.invariant-loop-setting
invariant-loop-setting l =
    held_over nothing_held (drop l.setting-index l.self.settings.items) l.group
    ≡ held_over nothing_held l.self.settings.items l.group
