-- What groups hold after settings, of which the newest comes first.
use Rattle.std.specs.Prelude.{ℕ, List, [], ◌∷◌}
use Rattle.hc_ways.specs.Kept.{Held, nothing_held, with_group}
use Rattle.hc_match.specs.declared.captures.Captures.{Captures}
use Rattle.hc_match.specs.declared.captures.Setting.{Setting}

-- The newest setting of a group counts; a group without one holds what it held before.
abbrev pub held_over : Held → List Setting → Held
held_over held [] = held
held_over held (setting ∷ settings) = with_group setting.group setting.span (held_over held settings)

-- What the groups hold.
abbrev pub captured : Captures → Held
captured captures = held_over nothing_held captures.settings.items

-- The group is set to what stands between these places.
abbrev pub set_to : ℕ → ℕ → ℕ → Setting
set_to group start end = record { group = group; span = record { start = start; end = end } }
