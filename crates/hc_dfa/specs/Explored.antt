-- Automata that are built from keys: each state stands for a key, and keys are numbered as they are met.
use Rattle.std.specs.Prelude.{◌≡◌, ℕ, ◌+◌, ◌*◌, ◌^◌, ◌≤◌, ◌/◌, ◌%◌, ◌<◌, List}
use Rattle.std.specs.Prelude.{length, slice_get}
use Rattle.std.specs.Prelude.{slice_index, slice_index_or, Some, ◌⊎◌, Bool, false}

-- Each key of the first list stands at the same place of the second.
abbrev pub Extends : {K : Type 0} → List K → List K → Type 0
Extends {K} keys more = (i : ℕ) (key : K) → slice_get keys i ≡ Some key → slice_get more i ≡ Some key

-- The second list is the first with a key that is met: the key has this number there, and no other is new.
pub record IsMet {K : Type 0} (keys : List K) (key : K) (more : List K) (number : ℕ) : Type 0 where
  pub stored : slice_get more number ≡ Some key
  pub longer : length keys ≤ length more
  pub len : length more ≤ length keys + 1
  pub extends : Extends keys more
  pub only : (i : ℕ) (other : K) → slice_get more i ≡ Some other → (slice_get keys i ≡ Some other)
      ⊎ (other ≡ key)

-- The number leads from the key of a cell's row, by the cell's place in the row, to a key.
pub record Leads {K : Type 0} (width : ℕ) (Step : K → ℕ → K → Type 0) (keys : List K) (cell number : ℕ) :
    Type 0 where
  pub from : K
  pub to : K
  pub from_is : slice_get keys (cell / width) ≡ Some from
  pub to_is : slice_get keys number ≡ Some to
  pub step : Step from (cell % width) to

-- Each key is a proper one, and each cell of the rows made so far leads on.
pub record Explored {K : Type 0} (width : ℕ) (Proper : K → Type 0) (Step : K → ℕ → K → Type 0)
    (keys : List K) (next : List ℕ)
    : Type 0 where
  pub proper : (i : ℕ) (key : K) → slice_get keys i ≡ Some key → Proper key
  pub leads : (cell : ℕ) → cell < length next → Leads width Step keys cell (slice_index next cell)

-- The rows made so far have an entry for each of these bytes.
abbrev pub RowsExplored : {K : Type 0} → (K → Type 0) → (K → ℕ → K → Type 0) → List ℕ → List K
    → List ℕ → Type 0
RowsExplored {K} IsKey Leads bytes keys next =
    Explored (length bytes) IsKey (λ from k to. Leads from (slice_index bytes k) to) keys next

-- The first keys have these marks.
abbrev pub AreMarked : {K : Type 0} → (K → Bool → Type 0) → List K → List Bool → Type 0
AreMarked {K} Marks keys marks = (i : ℕ) → i < length marks → (key : K) × (slice_get keys i ≡ Some key)
    × Marks key (slice_index_or marks i false)

-- So many of the keys have a row and a mark.
pub record AreRows {K : Type 0} (IsFirst IsKey : K → Type 0) (Leads : K → ℕ → K → Type 0)
    (Marks : K → Bool → Type 0)
    (bytes : List ℕ) (keys : List K) (next : List ℕ) (finals : List Bool) (count : ℕ) : Type 0 where
  pub first : (key : K) × (slice_get keys 0 ≡ Some key) × IsFirst key
  pub explored : RowsExplored IsKey Leads bytes keys next
  pub marked : AreMarked Marks keys finals
  pub rows : length next ≡ count * length bytes
  pub marks : length finals ≡ count

-- Each key that is met from the first on has a row and a mark.
pub record IsTableOf {K : Type 0} (IsFirst IsKey : K → Type 0) (Leads : K → ℕ → K → Type 0)
    (Marks : K → Bool → Type 0) (bytes next : List ℕ) (finals : List Bool) : Type 0 where
  pub keys : List K
  pub rows : AreRows IsFirst IsKey Leads Marks bytes keys next finals (length finals)
  pub all : length keys ≤ length finals
  pub few : length finals < 2 ^ 32
