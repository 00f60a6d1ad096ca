-- The names in a directory, found from place to place among the paths of a world; and what lists its files and
-- directories.
use Rattle.std.specs.Prelude.{◌≡◌, ℕ, Bool, true, List, [], ◌∷◌, ◌++◌, length, drop}
use Rattle.std.specs.Prelude.{if◌then◌else◌, nat_eq, Option, Some, None}
use Rattle.std.specs.FinMap.{get, keys}
use Rattle.std.specs.List.{filter, starts_with}
use Rattle.std.specs.Str.{IsUtf8}
use Rattle.std.specs.Ordering.{is_le, is_lt, nat_cmp}
use Rattle.std.specs.Cmp.Lexicographic.{slice_cmp}
use Rattle.hc_base.specs.Bytes.{slash}
use Rattle.hc_base.specs.Paths.{ends_with_slash}
use Rattle.hc_model.specs.Node.{Node, is_dir, is_file, text_of}
use Rattle.hc_model.specs.World.{World, as_name}
use Rattle.hc_world.specs.declared.world.ListKind.{ListKind}
use Rattle.hc_world.specs.declared.world.ListKind.TheVariants.{Dir, File}

-- ---- the order of bytes

abbrev pub is_before : List ℕ → List ℕ → Bool
is_before a b = is_lt (slice_cmp nat_cmp a b)

abbrev pub is_up_to : List ℕ → List ℕ → Bool
is_up_to a b = is_le (slice_cmp nat_cmp a b)

-- The paths at a place or behind it, and those behind it.
abbrev pub keys_from : List ℕ → World → List (List ℕ)
keys_from place world = filter (is_up_to place) (keys world)

abbrev pub keys_behind : List ℕ → World → List (List ℕ)
keys_behind place world = filter (is_before place) (keys world)

-- The first path at a place or behind it: the others there stand behind this path.
abbrev pub IsFirstFrom : List ℕ → List ℕ → World → Type 0
IsFirstFrom place path world = keys_from place world ≡ path ∷ keys_behind path world

-- ---- names

-- What the paths in a directory begin with: the directory and a slash.
abbrev pub front_of : List ℕ → List ℕ
front_of directory = if ends_with_slash directory then directory else directory ++ slash ∷ []

-- The name of a path that begins so: the rest, if it has no slash.
abbrev pub name_behind : List ℕ → List ℕ → Option (List ℕ)
name_behind front path = if starts_with nat_eq path front then as_name (drop (length front) path) else None

-- Behind a path the search for names may go on at this place, since no path between has a name;
-- or it may end, since no path behind has one.
abbrev pub GoesOn : List ℕ → List ℕ → Option (List ℕ) → Type 0
GoesOn front path None = (key : List ℕ) → is_before path key ≡ true → name_behind front key ≡ None
GoesOn front path (Some place) = (is_before path place ≡ true)
    × ((key : List ℕ) → is_before path key ≡ true → is_before key place ≡ true
    → name_behind front key ≡ None)

-- ---- paths

abbrev pub is_listed : ListKind → Option Node → Bool
is_listed File node = is_file node
is_listed Dir node = is_dir node

-- The files, or the directories.
abbrev pub paths_of : World → ListKind → List (List ℕ)
paths_of world kind = filter (λ path. is_listed kind (get world path)) (keys world)

-- Each text is UTF-8.
abbrev pub HasUtf8 : World → Type 0
HasUtf8 world = (path text : List ℕ) → text_of (get world path) ≡ Some text → IsUtf8 text
