-- Deterministic automata over bytes.
use Rattle.std.specs.Prelude.{◌≡◌, ℕ, ◌+◌, ◌*◌, ◌^◌, ◌<◌, List, [], ◌∷◌, length}
use Rattle.std.specs.Prelude.{slice_index, slice_index_or, Bool, false}

-- An automaton by its table: for each state the 256 next states, in the order of the bytes, and
-- for each state whether it is final. State 0 is the start.
pub record Automaton : Type 0 where
  pub next : List ℕ
  pub finals : List Bool

abbrev pub states : Automaton → ℕ
states a = length a.finals

abbrev pub next_state : Automaton → ℕ → ℕ → ℕ
next_state a state byte = slice_index a.next (256 * state + byte)

-- What a list has for the state that a byte leads to.
abbrev pub value_on : Automaton → List ℕ → ℕ → ℕ → ℕ
value_on a values state byte = slice_index values (next_state a state byte)

abbrev pub is_final : Automaton → ℕ → Bool
is_final a state = slice_index_or a.finals state false

-- The state in which a text that is read from a state ends.
abbrev pub run : Automaton → ℕ → List ℕ → ℕ
run a state [] = state
run a state (byte ∷ text) = run a (next_state a state byte) text

-- The run of the text from a state ends in a final state.
abbrev pub accepts_from : Automaton → ℕ → List ℕ → Bool
accepts_from a state text = is_final a (run a state text)

-- The automaton's test of a text.
unfoldable pub accepts : Automaton → List ℕ → Bool
accepts a text = accepts_from a 0 text

-- The table is one of an automaton: it has a state, a `u32` numbers them, each has a whole row,
-- and each entry is a state.
pub record IsTable (next : List ℕ) (finals : List Bool) : Type 0 where
  pub some : 0 < length finals
  pub few : length finals < 2 ^ 32
  pub whole : length next ≡ 256 * length finals
  pub within : (k : ℕ) → k < length next → slice_index next k < length finals
