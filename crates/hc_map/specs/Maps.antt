-- What the maps of a server give.
-- Apache manual, mod_rewrite, RewriteMap: "txt: Plain text maps", "int: Internal Function". That an unknown map has no
-- values, and what a line holds at most, is our own choice.
use Rattle.std.specs.Prelude.{ℕ, List, [], ◌∷◌, length, take, ◌-◌, map, if◌then◌else◌}
use Rattle.std.specs.Prelude.{Option, Some, None, option_map}
use Rattle.std.specs.Char.{to_ascii_lowercase, to_ascii_uppercase}
use Rattle.std.specs.List.{filter_map, find, slice_split}
use Rattle.std.specs.Option.{option_and_then}
use Rattle.std.specs.Str.{bytes_eq}
use Rattle.hc_base.specs.Bytes.{begins_with, cr, ends_with, hash}
use Rattle.hc_base.specs.Lines.{between_blanks, is_lf}
use Rattle.hc_model.specs.declared.mapping.Map.{Map}
use Rattle.hc_model.specs.declared.mapping.MapKind.{MapKind}
use Rattle.hc_model.specs.declared.mapping.MapKind.TheVariants.{File, Lower, Upper}

-- ---- the text of a map

-- One CR at the end of a line is dropped.
abbrev pub without_cr : List ℕ → List ℕ
without_cr line = if ends_with cr line then take (length line - 1) line else line

-- A key and its value.
abbrev pub Row : Type 0
Row = List ℕ × List ℕ

abbrev pub value_among : List (List ℕ) → List ℕ
value_among [] = []
value_among (value ∷ words) = value

-- The first word is the key, the second one the value. A line of blanks has none, and one that begins with `#` is a
-- comment.
abbrev pub row_of : List (List ℕ) → Option Row
row_of [] = None
row_of (key ∷ words) = if begins_with hash key then None else Some (key, value_among words)

abbrev pub row_in : List ℕ → Option Row
row_in line = row_of (between_blanks (without_cr line))

abbrev pub rows_of : List ℕ → List Row
rows_of text = filter_map row_in (slice_split is_lf text)

-- The first row with the key counts.
abbrev pub value_in : List ℕ → List ℕ → Option (List ℕ)
value_in key text = option_map (λ row. row.1) (find (λ row. bytes_eq row.0 key) (rows_of text))

-- ---- the maps of a server

-- The first map of a name counts.
abbrev pub map_named : List Map → List ℕ → Option Map
map_named maps name = find (λ each. bytes_eq each.name name) maps

abbrev pub file_of_kind : MapKind → Option (List ℕ)
file_of_kind (File path) = Some path
file_of_kind Upper = None
file_of_kind Lower = None

-- The path of a map's text; none where it has none, or there is no such map.
abbrev pub file_of : List Map → List ℕ → Option (List ℕ)
file_of maps name = option_and_then (λ each. file_of_kind each.kind) (map_named maps name)

-- A file that is not there, or has no text, has no values.
abbrev pub value_by : MapKind → List ℕ → Option (List ℕ) → Option (List ℕ)
value_by (File path) key text = option_and_then (value_in key) text
value_by Upper key text = Some (map to_ascii_uppercase key)
value_by Lower key text = Some (map to_ascii_lowercase key)

-- What a key has, by the text that stands in the map's file.
abbrev pub value_of : List Map → List ℕ → List ℕ → Option (List ℕ) → Option (List ℕ)
value_of maps name key text = option_and_then (λ each. value_by each.kind key text) (map_named maps name)

-- The text of a map's file, by the texts of all files.
abbrev pub text_behind : (List ℕ → Option (List ℕ)) → Option (List ℕ) → Option (List ℕ)
text_behind texts path = option_and_then texts path

abbrev pub look_up : List Map → (List ℕ → Option (List ℕ)) → List ℕ → List ℕ → Option (List ℕ)
look_up maps texts name key = value_of maps name key (text_behind texts (file_of maps name))
