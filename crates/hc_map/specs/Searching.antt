-- How the code looks for a key in the text of a map: line by line.
use Rattle.std.specs.Prelude.{ℕ, List, Option, Some, None, if◌then◌else◌}
use Rattle.std.specs.Str.{bytes_eq}
use Rattle.hc_map.specs.Maps.{Row}

-- What a line gives to a key.
abbrev pub value_by_row : List ℕ → Option Row → Option (List ℕ)
value_by_row key None = None
value_by_row key (Some row) = if bytes_eq row.0 key then Some row.1 else None
