-- Pairs of states of two automata.
use Rattle.std.specs.Prelude.{ℕ, ◌<◌}
use Rattle.hc_dfa.specs.Automata.{Automaton, states, next_state}

abbrev pub IsPair : Automaton → Automaton → (ℕ × ℕ) → Type 0
IsPair a b pair = (pair.0 < states a) × (pair.1 < states b)

abbrev pub pair_step : Automaton → Automaton → (ℕ × ℕ) → ℕ → (ℕ × ℕ)
pair_step a b pair byte = (next_state a pair.0 byte, next_state b pair.1 byte)
