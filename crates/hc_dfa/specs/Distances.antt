-- How many bytes lead from each state to a final one, at the least.
use Rattle.std.specs.Prelude.{◌≡◌, ℕ, ◌+◌, ◌<◌, ◌≤◌, List, [], ◌∷◌, length, slice_index}
use Rattle.std.specs.Prelude.{true, Option, None, Some}
use Rattle.hc_dfa.specs.Automata.{Automaton, states, next_state, is_final, value_on}
use Rattle.hc_dfa.specs.declared.leasts.TheConstants.{NONE}

-- What distances are while they are looked for: none is too small. `NONE` stands for none.
pub record Bounds (a : Automaton) (distances : List ℕ) : Type 0 where
  pub len : length distances ≡ states a
  pub finals : (state : ℕ) → state < states a → is_final a state ≡ true → slice_index distances state ≡ 0
  pub zero : (state : ℕ) → state < states a → slice_index distances state ≡ 0 → is_final a state ≡ true
  pub some : (state : ℕ) → state < states a → slice_index distances state < NONE
      → 0 < slice_index distances state
      → (byte : ℕ) × (byte < 256) × (value_on a distances state byte + 1 ≤ slice_index distances state)

-- No byte leads from the state to one that is nearer by more than one.
abbrev pub IsSettled : Automaton → List ℕ → ℕ → Type 0
IsSettled a distances state =
    (byte : ℕ) → byte < 256 → value_on a distances state byte < NONE
    → (slice_index distances state < NONE) × (slice_index distances state ≤ value_on a distances state byte + 1)

-- The distances of all states.
pub record Distances (a : Automaton) (distances : List ℕ) : Type 0 where
  pub bounds : Bounds a distances
  pub settled : (state : ℕ) → state < states a → IsSettled a distances state

-- The least distance of the states that bytes lead to.
pub record IsNearest (a : Automaton) (distances : List ℕ) (state nearest : ℕ) : Type 0 where
  pub least : (byte : ℕ) → byte < 256 → nearest ≤ value_on a distances state byte
  pub some : nearest < NONE → (byte : ℕ) × (byte < 256) × (value_on a distances state byte ≡ nearest)

-- The first byte that leads from the state to one at this distance, and `None` exactly where none does.
abbrev pub IsFirstTo : Automaton → List ℕ → ℕ → ℕ → Option ℕ → Type 0
IsFirstTo a distances state distance None = (byte : ℕ) → byte < 256 → value_on a distances state byte ≡ distance
    → ⊥
IsFirstTo a distances state distance (Some byte) =
    (byte < 256) × (value_on a distances state byte ≡ distance)
    × ((other : ℕ) → other < byte → value_on a distances state other ≡ distance → ⊥)

-- A walk from a state: each byte is the first that leads one nearer to a final state.
abbrev pub IsWalk : Automaton → List ℕ → ℕ → List ℕ → Type 0
IsWalk a distances state [] = slice_index distances state ≡ 0
IsWalk a distances state (byte ∷ text) =
    (byte < 256) × (slice_index distances state ≡ value_on a distances state byte + 1)
    × ((other : ℕ) → other < byte → slice_index distances state ≡ value_on a distances state other + 1 → ⊥)
    × IsWalk a distances (next_state a state byte) text
