-- Partitions of an automaton's states into blocks.
use Rattle.std.specs.Prelude.{◌≡◌, ℕ, ◌<◌, List, length, slice_index}
use Rattle.hc_dfa.specs.Automata.{Automaton, states, next_state, is_final, value_on}

-- The states of one block are all final, or none is.
abbrev pub RespectsFinals : Automaton → List ℕ → Type 0
RespectsFinals a blocks = (s t : ℕ) → s < states a → t < states a
    → slice_index blocks s ≡ slice_index blocks t → is_final a s ≡ is_final a t

-- From one block of the second partition each byte leads to one block of the first.
abbrev pub RespectsSteps : Automaton → List ℕ → List ℕ → Type 0
RespectsSteps a blocks finer =
    (s t byte : ℕ) → s < states a → t < states a → slice_index finer s ≡ slice_index finer t
    → byte < 256 →
    value_on a blocks s byte ≡ value_on a blocks t byte

-- The second partition is as fine as the first, and as what bytes lead to.
pub record Refines (a : Automaton) (blocks finer : List ℕ) : Type 0 where
  pub len : length finer ≡ states a
  pub bound : (s : ℕ) → s < states a → slice_index finer s < states a
  pub own : (s t : ℕ) → s < states a → t < states a → slice_index finer s ≡ slice_index finer t
      → slice_index blocks s ≡ slice_index blocks t
  pub steps : RespectsSteps a blocks finer

-- The states of one block have the same test.
pub record IsStable (a : Automaton) (blocks : List ℕ) : Type 0 where
  pub len : length blocks ≡ states a
  pub bound : (s : ℕ) → s < states a → slice_index blocks s < states a
  pub finals : RespectsFinals a blocks
  pub steps : RespectsSteps a blocks blocks

-- Each state is a block by itself, with its own number.
abbrev pub AreApart : List ℕ → Type 0
AreApart blocks = (s : ℕ) → s < length blocks → slice_index blocks s ≡ s

-- Each byte leads every state where one of these bytes leads it.
abbrev pub Represents : Automaton → List ℕ → Type 0
Represents a bytes =
    (byte : ℕ) → byte < 256 →
    (k : ℕ) × (k < length bytes)
    × ((s : ℕ) → s < states a → next_state a s byte ≡ next_state a s (slice_index bytes k))

-- What a refinement tells states apart by: the blocks that these bytes lead to, and the state's own.
pub record IsSignature (a : Automaton) (bytes blocks : List ℕ) (state : ℕ) (signature : List ℕ) : Type 0 where
  pub steps : (k : ℕ) → k < length bytes
      → slice_index signature k ≡ value_on a blocks state (slice_index bytes k)
  pub block : slice_index signature (length bytes) ≡ slice_index blocks state

-- A state of each block, by the block's number.
pub record AreLeaders (count : ℕ) (blocks leaders : List ℕ) : Type 0 where
  pub len : length leaders ≡ count
  pub bound : (block : ℕ) → block < count → slice_index leaders block < count
  pub block : (s : ℕ) → s < count → slice_index blocks (slice_index leaders (slice_index blocks s))
      ≡ slice_index blocks s
