-- Automata by the state that each byte leads to.
use Rattle.std.specs.Prelude.{◌≡◌, ℕ, ◌+◌, ◌*◌, ◌<◌, List, length, slice_index, Bool}
use Rattle.hc_dfa.specs.Automata.{Automaton, states, next_state, is_final}
use Rattle.hc_dfa.specs.Classings.{Classing, class_of}

-- The automaton has so many states, with these steps and marks.
pub record IsTabled (count : ℕ) (step : ℕ → ℕ → ℕ) (mark : ℕ → Bool) (a : Automaton) : Type 0 where
  pub len : states a ≡ count
  pub steps : (state byte : ℕ) → state < count → byte < 256 → next_state a state byte ≡ step state byte
  pub finals : (state : ℕ) → state < count → is_final a state ≡ mark state

-- Bytes of one class lead from each state to the same state.
abbrev pub TellsAll : Classing → ℕ → (ℕ → ℕ → ℕ) → Type 0
TellsAll c count step =
    (state b d : ℕ) → state < count → b < 256 → d < 256 → class_of c b ≡ class_of c d
    → step state b ≡ step state d

-- The cells of rows, which have an entry for each of these bytes.
pub record AreFilled (count : ℕ) (step : ℕ → ℕ → ℕ) (bytes rows : List ℕ) (cells : ℕ) : Type 0 where
  pub len : length rows ≡ cells
  pub each : (state place : ℕ) → place < length bytes → state * length bytes + place < cells
      → slice_index rows (state * length bytes + place) ≡ step state (slice_index bytes place)
  pub within : (cell : ℕ) → cell < cells → slice_index rows cell < count
