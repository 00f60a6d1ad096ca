-- Classes of bytes, and tables with an entry for each state and class.
use Rattle.std.specs.Prelude.{◌≡◌, ℕ, ◌+◌, ◌*◌, ◌/◌, ◌%◌, ◌^◌, ◌<◌, ◌≤◌, List}
use Rattle.std.specs.Prelude.{length, map, slice_index, Bool}
use Rattle.std.specs.List.{range_with_len}
use Rattle.hc_dfa.specs.Automata.{Automaton, states, next_state}

-- The class of each byte, and the least byte of each class.
pub record Classing : Type 0 where
  pub classes : List ℕ
  pub firsts : List ℕ

abbrev pub class_of : Classing → ℕ → ℕ
class_of c byte = slice_index c.classes byte

abbrev pub first_of : Classing → ℕ → ℕ
first_of c class = slice_index c.firsts class

abbrev pub class_count : Classing → ℕ
class_count c = length c.firsts

-- The bytes below the bound are in classes, which are numbered in the order of their least bytes.
pub record AreClassesBelow (bound : ℕ) (c : Classing) : Type 0 where
  pub len : length c.classes ≡ bound
  pub few : class_count c ≤ bound
  pub within : (byte : ℕ) → byte < bound → class_of c byte < class_count c
  pub least : (byte : ℕ) → byte < bound → first_of c (class_of c byte) ≤ byte
  pub own : (class : ℕ) → class < class_count c → class_of c (first_of c class) ≡ class
  pub below : (class : ℕ) → class < class_count c → first_of c class < bound
  pub order : (class later : ℕ) → class < later → later < class_count c → first_of c class < first_of c later

abbrev pub AreClasses : Classing → Type 0
AreClasses c = AreClassesBelow 256 c

-- The byte lies between two of its class that are among these.
pub record IsEnclosed (c : Classing) (ends : List ℕ) (byte : ℕ) : Type 0 where
  pub low : ℕ
  pub high : ℕ
  pub low_within : low < length ends
  pub high_within : high < length ends
  pub low_alike : class_of c (slice_index ends low) ≡ class_of c byte
  pub high_alike : class_of c (slice_index ends high) ≡ class_of c byte
  pub from : slice_index ends low ≤ byte
  pub to : byte ≤ slice_index ends high

abbrev pub HasEnds : Classing → List ℕ → Type 0
HasEnds c ends = (byte : ℕ) → byte < 256 → IsEnclosed c ends byte

-- Bytes of one class have the same number.
abbrev pub IsAsFine : Classing → List ℕ → Type 0
IsAsFine c numbers =
    (b d : ℕ) → b < 256 → d < 256 → class_of c b ≡ class_of c d
    → slice_index numbers b ≡ slice_index numbers d

-- Bytes of one class lead from each state to the same state.
abbrev pub Tells : Classing → Automaton → Type 0
Tells c a =
    (s b d : ℕ) → s < states a → b < 256 → d < 256 → class_of c b ≡ class_of c d
    → next_state a s b ≡ next_state a s d

-- Bytes with the same number lead from each state to the same state.
abbrev pub TellsByNumber : List ℕ → Automaton → Type 0
TellsByNumber numbers a =
    (b d : ℕ) → b < 256 → d < 256 → slice_index numbers b ≡ slice_index numbers d →
    (s : ℕ) → s < states a → next_state a s b ≡ next_state a s d

-- Where a byte leads from each state.
pub record IsColumn (a : Automaton) (byte : ℕ) (column : List ℕ) : Type 0 where
  pub len : length column ≡ states a
  pub each : (s : ℕ) → s < states a → slice_index column s ≡ next_state a s byte

-- Those of the bytes that have the same number lead from each state to the same state.
pub record AreColumns (a : Automaton) (bytes numbers : List ℕ) : Type 0 where
  pub len : length numbers ≡ length bytes
  pub same : (k j s : ℕ) → k < length bytes → j < length bytes → slice_index numbers k ≡ slice_index numbers j
      → s < states a →
      next_state a s (slice_index bytes k) ≡ next_state a s (slice_index bytes j)

-- The table by bytes of one by classes.
unfoldable pub expanded : Classing → List ℕ → ℕ → List ℕ
expanded c rows count =
    map (λ cell. slice_index rows (cell / 256 * class_count c + class_of c (cell % 256)))
    (range_with_len 0 (256 * count))

-- The automaton of a table by classes.
abbrev pub automaton_of : Classing → List ℕ → List Bool → Automaton
automaton_of c rows finals = record { next = expanded c rows (length finals); finals = finals }

-- The table by classes is one of an automaton.
pub record IsRows (c : Classing) (rows : List ℕ) (finals : List Bool) : Type 0 where
  pub some : 0 < length finals
  pub few : length finals < 2 ^ 32
  pub classes : AreClasses c
  pub whole : length rows ≡ length finals * class_count c
  pub within : (k : ℕ) → k < length rows → slice_index rows k < length finals
