-- Texts that stand between others.
use Rattle.std.specs.Prelude.{ℕ, ◌+◌, ◌-◌, nat_lt, nat_le, List, ◌++◌, drop, if◌then◌else◌}
use Rattle.hc_dfa.specs.Automata.{Automaton, next_state}
use Rattle.hc_dfa.specs.Texts.{TextSet}

-- What is in the set where it stands between two texts, without so many of its first bytes.
abbrev pub between : List ℕ → ℕ → List ℕ → TextSet → TextSet
between before skip after set text = set (before ++ (drop skip text ++ after))

-- The state of the set that a state stands for. The first ones count the bytes that are left out, and stand for the
-- one that is entered behind them.
abbrev pub origin : ℕ → ℕ → ℕ → ℕ
origin entry skip state = if nat_le state skip then entry else state - (skip + 1)

abbrev pub placed_step : Automaton → ℕ → ℕ → ℕ → ℕ → ℕ
placed_step a entry skip state byte =
    if nat_lt state skip then state + 1 else skip + 1 + next_state a (origin entry skip state) byte
