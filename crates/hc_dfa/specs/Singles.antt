-- The automaton of one text, and the texts that are found one after another.
use Rattle.std.specs.Prelude.{◌≡◌, ℕ, ◌+◌, ◌<◌, ◌⊎◌, ◌==◌, ◌&&◌, not}
use Rattle.std.specs.Prelude.{nat_eq, nat_lt, IsTrue, List, length, slice_index, Bool, false, if◌then◌else◌}
use Rattle.std.specs.List.{AllByRecursion, list_any}
use Rattle.std.specs.Cmp.Lexicographic.{pointwise}
use Rattle.hc_dfa.specs.Automata.{Automaton}
use Rattle.hc_dfa.specs.Built.{Accepts, IsInOrder}
use Rattle.hc_dfa.specs.Texts.{TextSet, IsText, comes_before}

-- The set of one text.
abbrev pub single : List ℕ → TextSet
single text other = pointwise nat_eq other text

-- Reading a text byte by byte: a state counts the bytes that were read, and the last one stands for another text.
abbrev pub single_step : List ℕ → ℕ → ℕ → ℕ
single_step text state byte = if (nat_lt state (length text) && (slice_index text state == byte)) then state + 1
    else length text + 1

-- So many bytes of the text have numbers of their own, and all others have 0.
pub record AreOwn (text : List ℕ) (count : ℕ) (numbers : List ℕ) : Type 0 where
  pub len : length numbers ≡ 256
  pub bytes : (byte : ℕ) → byte < 256
      → (slice_index numbers byte ≡ 0) ⊎ (slice_index numbers byte ≡ byte + 1)
  pub each : (place : ℕ) → place < count
      → slice_index numbers (slice_index text place) ≡ slice_index text place + 1

-- The text is one of these.
abbrev pub is_among : List (List ℕ) → List ℕ → Bool
is_among texts text = list_any (pointwise nat_eq text) texts

-- The first texts of a set, and the automaton of the rest.
pub record AreFound (set : TextSet) (texts : List (List ℕ)) (rest : Automaton) : Type 0 where
  pub members : AllByRecursion (λ text. IsText text × IsTrue (set text)) texts
  pub ordered : IsInOrder texts
  pub left : Accepts rest (λ text. set text && not (is_among texts text))
  pub later : (other : List ℕ) → IsText other → IsTrue (set other) → is_among texts other ≡ false →
      AllByRecursion (λ text. IsTrue (comes_before text other)) texts
