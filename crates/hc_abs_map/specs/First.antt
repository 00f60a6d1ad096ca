-- Reading a text for its first component: whether its path, a slash and the component, is in a set.
use Rattle.std.specs.Prelude.{ℕ, ◌<◌, Bool, false, if◌then◌else◌}
use Rattle.std.specs.FinMap.{get}
use Rattle.hc_base.specs.Bytes.{slash}
use Rattle.hc_base.specs.Paths.{is_slash}
use Rattle.hc_dfa.specs.Automata.{Automaton, is_final, next_state, states}
use Rattle.hc_dfa.specs.Texts.{TextSet}
use Rattle.hc_model.specs.Node.{kind_of}
use Rattle.hc_model.specs.World.{World}
use Rattle.hc_rw_sets.specs.Naming.{names}
use Rattle.hc_serve.specs.ServerRules.{first_component, is_there}
use Rattle.hc_abs_map.specs.declared.first.Spot.{Spot}
use Rattle.hc_abs_map.specs.declared.first.Spot.TheVariants as spot

-- The path is in the set; a text of slashes alone has none.
abbrev pub first_in : TextSet → TextSet
first_in paths text = names paths (first_component text)

-- The paths at which something stands.
abbrev pub stands_in : World → TextSet
stands_in world path = is_there (kind_of (get world path))

-- Behind slashes; within the first component, in a state of the set's automaton; behind it, and whether it is in the set.
abbrev pub next_spot : Automaton → Spot → ℕ → Spot
next_spot a spot.Slashes byte =
    if is_slash byte then spot.Slashes else spot.Within (next_state a (next_state a 0 slash) byte)
next_spot a (spot.Within state) byte =
    if is_slash byte then spot.Behind (is_final a state) else spot.Within (next_state a state byte)
next_spot a (spot.Behind is) byte = spot.Behind is

abbrev pub spot_holds : Automaton → Spot → Bool
spot_holds a spot.Slashes = false
spot_holds a (spot.Within state) = is_final a state
spot_holds a (spot.Behind is) = is

abbrev pub IsSpot : Automaton → Spot → Type 0
IsSpot a spot.Slashes = Unit {0}
IsSpot a (spot.Within state) = state < states a
IsSpot a (spot.Behind is) = Unit {0}
