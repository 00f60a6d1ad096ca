-- A world of files: a finite map from absolute paths, and the edits of it. Our own choice.
use Rattle.std.specs.Prelude.{◌≡◌, ℕ, ◌==◌, List, [], ◌∷◌, ◌++◌, length, take, drop, Bool, true}
use Rattle.std.specs.Prelude.{not, ◌&&◌, ◌||◌, if◌then◌else◌, nat_le, nat_lt, nat_eq, Option, Some, None}
use Rattle.std.specs.Prelude.{Result, Ok, Err, Contains, IsSome}
use Rattle.std.specs.List.{filter_map, list_any, list_all, slice_split, starts_with}
use Rattle.std.specs.Ordering.{nat_cmp}
use Rattle.std.specs.Cmp.Lexicographic.{slice_cmp}
use Rattle.std.specs.FinMap.{FinMap, get, insert, empty, keys}
use Rattle.std.specs.Coded.{Coded, coded_list, coded_ℕ}
use Rattle.std.specs.FinMap as map
use Rattle.hc_base.specs.Bytes.{is_control, slash}
use Rattle.hc_base.specs.Paths.{is_slash, begins_with_slash, ends_with_slash, is_dots}
use Rattle.hc_base.specs.declared.codes.TheConstants.{IS_DIRECTORY, PATH_FORM, UNDER_FILE}
use Rattle.hc_model.specs.Node.{Node, dir, file, text, node_code, is_dir, is_file}

abbrev pub World : Type 0
World = FinMap (slice_cmp nat_cmp) Node

abbrev pub world_code : Coded World
world_code = map.code (coded_list coded_ℕ) node_code

abbrev pub root : List ℕ
root = slash ∷ []

-- ---- paths

-- The name of a file in its directory: 1 to 255 bytes, not `.` or `..`, with no control byte.
abbrev pub is_component : List ℕ → Bool
is_component name =
    nat_lt 0 (length name) && nat_le (length name) 255 && not (is_dots name) && not (list_any is_control name)

-- The root, or a slash before each of its components; at most 4,096 bytes.
abbrev pub is_path : List ℕ → Bool
is_path path =
    begins_with_slash path && nat_le (length path) 4096
    && ((length path == 1) || list_all is_component (slice_split is_slash (drop 1 path)))

-- The fronts of a text that end before one of its slashes; `seen` stands before all.
abbrev pub fronts : List ℕ → List ℕ → List (List ℕ)
fronts seen [] = []
fronts seen (b ∷ bs) =
    if is_slash b then seen ∷ fronts (seen ++ b ∷ []) bs
    else fronts (seen ++ b ∷ []) bs

-- The directories above a path, from the root down; the root has none.
abbrev pub parents : List ℕ → List (List ℕ)
parents path = if nat_le (length path) 1 then [] else root ∷ fronts (take 1 path) (drop 1 path)

-- ---- worlds

-- The root is a directory, and so is each path above one that is there; and only paths are.
pub record IsWorld (world : World) : Type 0 where
  pub keys_are_paths : (path : List ℕ) → IsSome (get world path) → is_path path ≡ true
  pub root_is_dir : get world root ≡ Some dir
  pub parents_are_dirs : (path above : List ℕ) → IsSome (get world path) → Contains (parents path) above
      → get world above ≡ Some dir

-- The root alone.
abbrev pub new_world : World
new_world = insert empty root dir

-- The world with a directory at each of these paths.
abbrev pub with_dirs : World → List (List ℕ) → World
with_dirs world [] = world
with_dirs world (path ∷ paths) = with_dirs (insert world path dir) paths

-- Some path above this one is a file.
abbrev pub is_under_file : World → List ℕ → Bool
is_under_file world path = list_any (λ above. is_file (get world above)) (parents path)

-- The world with a node at a path and directories above it.
abbrev pub with_node : World → List ℕ → Node → World
with_node world path node = insert (with_dirs world (parents path)) path node

-- A file, given as its node, is made or replaced, and its missing parents are made; else the first
-- rule that is broken.
abbrev pub put_file : World → List ℕ → Node → Result World ℕ
put_file world path node =
    if not (is_path path) then Err PATH_FORM
    else (if is_under_file world path then Err UNDER_FILE
    else (if is_dir (get world path) then Err IS_DIRECTORY
    else Ok (with_node world path node)))

-- A file with this text, and a file without a text.
abbrev pub put : World → List ℕ → List ℕ → Result World ℕ
put world path bytes = put_file world path (text bytes)

abbrev pub list_file : World → List ℕ → Result World ℕ
list_file world path = put_file world path file

-- A directory is made, and its missing parents are made. One that is there stays.
abbrev pub list_dir : World → List ℕ → Result World ℕ
list_dir world path =
    if not (is_path path) then Err PATH_FORM
    else (if is_under_file world path || is_file (get world path) then Err UNDER_FILE
    else Ok (with_node world path dir))

-- ---- the names in a directory

abbrev pub as_name : List ℕ → Option (List ℕ)
as_name rest = if nat_lt 0 (length rest) && not (list_any is_slash rest) then Some rest else None

abbrev pub name_behind_slash : List ℕ → Option (List ℕ)
name_behind_slash [] = None
name_behind_slash (b ∷ bs) = if is_slash b then as_name bs else None

-- The name that a path has in a directory: what follows the directory and a slash, if this has no
-- further slash.
abbrev pub name_in : List ℕ → List ℕ → Option (List ℕ)
name_in directory path =
    if starts_with nat_eq path directory
    then (if ends_with_slash directory then as_name (drop (length directory) path)
    else name_behind_slash (drop (length directory) path))
    else None

-- The names in a directory, in the order of their bytes; none where there is no directory.
abbrev pub names_in : World → List ℕ → List (List ℕ)
names_in world directory =
    if is_dir (get world directory) then filter_map (name_in directory) (keys world) else []
