-- How the rows of the code stand for the last changes of a world.
use Rattle.std.specs.Prelude.{◌≡◌, ℕ, ◌≤◌, ◌==◌, ◌&&◌, Bool, not, List, map, if◌then◌else◌}
use Rattle.std.specs.Prelude.{Vec, Option, Some, None, IsSome}
use Rattle.std.specs.declared.alloc.Global.{Global}
use Rattle.std.specs.FinMap.{from_entries, get, insert, retain_keys}
use Rattle.hc_model.specs.declared.read.Read.{Read}
use Rattle.hc_steps.specs.Step.{Path}
use Rattle.hc_world.specs.Changes.{ChangeMap, Changes, changes_at, last_change}
use Rattle.hc_world.specs.declared.changes.Changes as code

abbrev pub numbers_of : code.Changes → Changes
numbers_of row = record { kind = row.kind; text = row.text; names = row.names }

abbrev pub row_of : Vec ℕ Global × code.Changes → List ℕ × Changes
row_of row = (row.0.items, numbers_of row.1)

abbrev pub rows_of : List (Vec ℕ Global × code.Changes) → ChangeMap
rows_of rows = from_entries (map row_of rows)

-- Nothing was ever changed: such rows are made ahead.
abbrev pub is_never : Changes → Bool
is_never row = (row.kind == 0) && (row.text == 0) && (row.names == 0)

-- The rows but those that were only made ahead.
abbrev pub seen_rows : ChangeMap → ChangeMap
seen_rows rows = retain_keys rows (λ path. not (is_never (changes_at rows path)))

-- No number is above this one.
abbrev pub IsNoLater : ℕ → ChangeMap → Type 0
IsNoLater number rows = (read : Read) → last_change rows read ≤ number

-- ---- marks

abbrev pub adjusted_to : ChangeMap → Path → (Changes → Changes) → Option Changes → ChangeMap
adjusted_to rows path mark None = rows
adjusted_to rows path mark (Some row) = insert rows path (mark row)

-- A path's row is changed, if it has one.
abbrev pub adjusted : ChangeMap → Path → (Changes → Changes) → ChangeMap
adjusted rows path mark = adjusted_to rows path mark (get rows path)

abbrev pub with_all : Bool → ℕ → Changes → Changes
with_all is_dir number row =
    record { kind = number; text = number; names = if is_dir then number else row.names }

abbrev pub with_text : ℕ → Changes → Changes
with_text number row = record row { text = number }

abbrev pub with_names : ℕ → Changes → Changes
with_names number row = record row { names = number }

-- What was made in a directory.
abbrev pub made_in : ChangeMap → Path → Path → Bool → ℕ → ChangeMap
made_in rows directory path is_dir number =
    adjusted (adjusted rows path (with_all is_dir number)) directory (with_names number)

-- What was written over a file.
abbrev pub written : ChangeMap → Path → Bool → ℕ → ChangeMap
written rows path same number = if same then rows else adjusted rows path (with_text number)

-- ---- what a function leaves

abbrev pub SameRows : ChangeMap → ChangeMap → Type 0
SameRows old new = (path : Path) → changes_at new path ≡ changes_at old path

abbrev pub KeepsRows : ChangeMap → ChangeMap → Type 0
KeepsRows old new = (path : Path) → IsSome (get old path) → IsSome (get new path)
