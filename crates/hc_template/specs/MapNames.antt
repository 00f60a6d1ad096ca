-- The name of a map.
-- Apache manual, mod_rewrite, RewriteMap. Its form is our own choice.
use Rattle.std.specs.Prelude.{ℕ, ◌==◌, ◌||◌, ◌&&◌, List, [], ◌∷◌, length, Bool, nat_lt, nat_le}
use Rattle.std.specs.Prelude.{if◌then◌else◌, Option, Some, None, option_map}
use Rattle.std.specs.Char.{is_ascii_alphanumeric}
use Rattle.std.specs.List.{list_all}
use Rattle.hc_base.specs.Bytes.{colon, dash, underscore}
use Rattle.hc_template.specs.declared.lookup.TheConstants.{LONGEST_MAP_NAME}

abbrev pub is_map_byte : ℕ → Bool
is_map_byte b = is_ascii_alphanumeric b || (b == underscore) || (b == dash)

-- One to 64 letters, digits, `_` and `-`.
abbrev pub is_map_name : List ℕ → Bool
is_map_name name = nat_lt 0 (length name) && nat_le (length name) LONGEST_MAP_NAME && list_all is_map_byte name

-- The bytes before the first colon.
abbrev pub before_colon : List ℕ → Option (List ℕ)
before_colon [] = None
before_colon (b ∷ bs) = if b == colon then Some [] else option_map (λ front. b ∷ front) (before_colon bs)

abbrev pub if_map_name : Option (List ℕ) → Option (List ℕ)
if_map_name None = None
if_map_name (Some name) = if is_map_name name then Some name else None

-- The name of a map that stands before a colon.
abbrev pub map_name : List ℕ → Option (List ℕ)
map_name text = if_map_name (before_colon text)
