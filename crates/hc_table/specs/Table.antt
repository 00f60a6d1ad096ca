-- The rows of a table of names, and how a name is looked up.
use Rattle.std.specs.Prelude.{ℕ, List, [], ◌∷◌, if◌then◌else◌, Option, Some, None, map}
use Rattle.std.specs.List.{flat_map}
use Rattle.std.specs.Str.{str_eq_ignore_ascii_case}
use Rattle.hc_base.specs.Lines.{between_blanks}
use Rattle.hc_table.specs.declared.table.Row.{Row}

-- Names, each with what it stands for.
abbrev pub Names : Type 0 → Type 0
Names K = List (List ℕ × K)

-- What a row of the code stands for.
abbrev pub row_of : {K : Type 0} → Row K → List ℕ × K
row_of row = (row.name.now, row.kind)

-- What the first row with this name, without case, stands for.
abbrev pub find_in : {K : Type 0} → Names K → List ℕ → Option K
find_in [] name = None
find_in (row ∷ rows) name = if str_eq_ignore_ascii_case row.0 name then Some row.1 else find_in rows name

-- A row for each word of a text, all of one kind.
abbrev pub rows_of : {K : Type 0} → K → List ℕ → Names K
rows_of kind names = map (λ name. (name, kind)) (between_blanks names)

-- The rows of some groups, in order.
abbrev pub all_rows : {K : Type 0} → List (Names K) → Names K
all_rows groups = flat_map (λ rows. rows) groups
