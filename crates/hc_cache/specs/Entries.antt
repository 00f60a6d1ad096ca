-- What is kept with what it rests on. Our own choice.
use Rattle.std.specs.Prelude.{ℕ, nat_le, List, [], ◌∷◌, ◌++◌, length, drop, filter, Bool, not}
use Rattle.std.specs.Prelude.{if◌then◌else◌, Option, Some, None, option_and_then}
use Rattle.std.specs.List.{find, list_all}
use Rattle.hc_model.specs.declared.read.Read.{Read}
use Rattle.hc_world.specs.Edits.{Edited, changed_at}

-- No edit behind this one changed one of these reads.
abbrev pub is_current : Edited → List Read → ℕ → Bool
is_current world reads at = list_all (λ read. nat_le (changed_at world read) at) reads

-- A value by its key, with what it rests on, and the number of the last edit before it was kept.
pub record Entry (K V : Type 0) : Type 0 where
  pub key : K
  pub reads : List Read
  pub at : ℕ
  pub value : V

-- Entries, the oldest first, and how many there may be.
pub record Cached (K V : Type 0) : Type 0 where
  pub limit : ℕ
  pub entries : List (Entry K V)

module _ {K V : Type 0} where
  abbrev pub is_valid : Edited → Entry K V → Bool
  is_valid world entry = is_current world entry.reads entry.at

  abbrev pub valid_value : Edited → Entry K V → Option V
  valid_value world entry = if is_valid world entry then Some entry.value else None

  -- The value of a key, while nothing that it rests on has changed.
  abbrev pub value_of : (K → K → Bool) → Edited → K → List (Entry K V) → Option V
  value_of eq world key entries = option_and_then (valid_value world) (find (λ entry. eq key entry.key) entries)

  -- Without the entry of a key.
  abbrev pub without : (K → K → Bool) → K → List (Entry K V) → List (Entry K V)
  without eq key entries = filter (λ entry. not (eq key entry.key)) entries

  -- Without the oldest, where there are so many.
  abbrev pub below : ℕ → List (Entry K V) → List (Entry K V)
  below limit entries = if nat_le limit (length entries) then drop 1 entries else entries

  -- A new entry takes the place of the one of its key, or else of the oldest, and comes last.
  abbrev pub stored : (K → K → Bool) → ℕ → Entry K V → List (Entry K V) → List (Entry K V)
  stored eq limit entry entries = below limit (without eq entry.key entries) ++ entry ∷ []
