-- The names whose last component is in a set, read byte by byte.
use Rattle.std.specs.Prelude.{ℕ, Bool, true, false, not, ◌&&◌, if◌then◌else◌}
use Rattle.hc_base.specs.Paths.{ends_with_slash, is_slash}
use Rattle.hc_dfa.specs.Automata.{Automaton, is_final, next_state}
use Rattle.hc_dfa.specs.Texts.{TextSet}
use Rattle.hc_merge.specs.Reaching.{last_component}
use Rattle.hc_abs_force.specs.declared.components.Spot.{Spot}

-- None where the name ends with a slash.
abbrev pub last_in : TextSet → TextSet
last_in set name = not (ends_with_slash name) && set (last_component name)

-- Each slash begins the component anew.
abbrev pub next_spot : Automaton → Spot → ℕ → Spot
next_spot set spot byte =
    if is_slash byte then record { state = 0; ended = true }
    else record { state = next_state set spot.state byte; ended = false }

abbrev pub ends_at : Automaton → Spot → Bool
ends_at set spot = not spot.ended && is_final set spot.state
