-- The variables that rules set: names with their values, in the order in which the names were first set.
-- Apache manual, "RewriteRule Flags", E. Names are compared with case.
use Rattle.std.specs.Prelude.{ℕ, List, [], ◌++◌, unwrap_or}
use Rattle.std.specs.List.{fold}
use Rattle.std.specs.Map.{lookup}
use Rattle.std.specs.Str.{bytes_eq}
use Rattle.indexmap.specs.IndexMap.{insert_entry}

abbrev pub Variables : Type 0
Variables = List (List ℕ × List ℕ)

-- The value of a name; empty where there is none.
abbrev pub variable_set : Variables → List ℕ → List ℕ
variable_set vars name = unwrap_or (lookup (bytes_eq name) vars) []

-- A name that is there keeps its place and takes the value, and a new one comes last.
abbrev pub with_value : Variables → List ℕ → List ℕ → Variables
with_value vars name value = insert_entry bytes_eq vars name value

-- Each set anew, in order, under its name behind a front.
abbrev pub renamed_onto : List ℕ → Variables → Variables → Variables
renamed_onto front done vars = fold (λ done each. with_value done (front ++ each.0) each.1) done vars

abbrev pub renamed : List ℕ → Variables → Variables
renamed front vars = renamed_onto front [] vars
