-- The texts of a set behind a text.
use Rattle.std.specs.Prelude.{◌≡◌, ℕ, ◌+◌, ◌-◌, ◌<◌, ◌&&◌, nat_le, nat_lt, nat_eq, List, [], ◌∷◌, length}
use Rattle.std.specs.Prelude.{slice_index, Bool, false, if◌then◌else◌}
use Rattle.hc_dfa.specs.Automata.{Automaton, is_final, next_state, states}
use Rattle.hc_dfa.specs.Classings.{Classing, class_of}
use Rattle.hc_dfa.specs.Texts.{TextSet}

-- A text that begins so, where the rest is in the set.
abbrev pub behind_text : List ℕ → TextSet → TextSet
behind_text [] set text = set text
behind_text (own ∷ front) set [] = false
behind_text (own ∷ front) set (byte ∷ text) = nat_eq byte own && behind_text front set text

-- The first states count the bytes of the front that were read. The automaton's own stand behind them, and the last
-- one stands for texts that begin otherwise.
abbrev pub fronted_step : List ℕ → Automaton → ℕ → ℕ → ℕ
fronted_step front a state byte =
    if nat_eq state (length front + states a) then length front + states a
    else if nat_le (length front) state then length front + next_state a (state - length front) byte
    else if nat_eq (slice_index front state) byte then state + 1 else length front + states a

abbrev pub fronted_mark : List ℕ → Automaton → ℕ → Bool
fronted_mark front a state = nat_le (length front) state && nat_lt (state - length front) (states a)
    && is_final a (state - length front)

-- Bytes of one class are the same byte of the text, or none of its bytes.
abbrev pub IsToldApart : List ℕ → Classing → Type 0
IsToldApart text c = (b d place : ℕ) → b < 256 → d < 256 → class_of c b ≡ class_of c d → place < length text
    → slice_index text place ≡ b → b ≡ d
