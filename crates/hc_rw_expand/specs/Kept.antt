-- A map in a block of its own.
use Rattle.std.specs.Prelude.{List, [], Option, Some, None}
use Rattle.std.specs.declared.boxed.Box.{Box}
use Rattle.indexmap.specs.IndexMap.{IndexMap}

abbrev pub entries_in : {K X S A : Type 0} → Option (Box (IndexMap K X S) A) → List (K × X)
entries_in None = []
entries_in (Some boxed) = boxed.value.entries
