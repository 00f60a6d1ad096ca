-- The files that the path of an Include names.
-- Apache manual, core, Include: wildcards may stand in any part of the path, and the files that they
-- match are read in order. That order, and what is a wildcard, is our own choice.
use Rattle.std.specs.Prelude.{ℕ, ◌==◌, List, [], ◌∷◌, ◌++◌, length, map, filter, Bool, true, false, not}
use Rattle.std.specs.Prelude.{◌||◌, Option, Some, None, Result, Ok, Err, if◌then◌else◌, is_some}
use Rattle.std.specs.List.{list_any, slice_split}
use Rattle.std.specs.Cmp.Lexicographic.{slice_cmp}
use Rattle.std.specs.Ordering.{nat_cmp}
use Rattle.hc_base.specs.Bytes.{slash}
use Rattle.hc_base.specs.Paths.{begins_with_slash, is_slash}
use Rattle.hc_base.specs.Rules.{rule}
use Rattle.hc_base.specs.declared.codes.TheConstants.{CONTENT_MISSING, INCLUDE_CYCLE, INCLUDE_MISSING, INCLUDE_TOO_DEEP}
use Rattle.hc_base.specs.declared.codes.TheConstants.{NO_SERVER_ROOT}
use Rattle.hc_base.specs.declared.fault.AtByte.{AtByte}
use Rattle.hc_model.specs.World.{root}
use Rattle.hc_model.specs.declared.walk.Kind.{Kind}
use Rattle.hc_model.specs.declared.walk.Kind.TheVariants.{Absent, Dir, File}
use Rattle.hc_pattern.specs.Globs.{glob_pattern, has_wildcard}
use Rattle.hc_pattern.specs.Pattern.{Pattern}
use Rattle.hc_steps.specs.Order.{ordered}
use Rattle.hc_steps.specs.Step.{Found, Path, Step, leaves, ends, ◌>>=◌, in_order, names_at, text_at}
use Rattle.hc_ways.specs.Kept.{first_match}
use Rattle.hc_says.specs.Says.{is_among}
use Rattle.hc_include.specs.declared.around.Around.{Around}
use Rattle.hc_include.specs.declared.candidates.Candidates.{Candidates}
use Rattle.hc_include.specs.declared.component.Component.{Component}
use Rattle.hc_include.specs.declared.component.Component.TheVariants.{Glob, Name}

-- ---- the components of a path

abbrev pub globbed : Result Pattern AtByte → Result Component AtByte
globbed (Ok pattern) = Ok (Glob pattern)
globbed (Err broken) = Err broken

-- A component is a name, or a glob for the names in a directory. No `?`, `*` or class of one matches a
-- slash; no name has one.
abbrev pub component_of : List ℕ → Result Component AtByte
component_of text = if has_wildcard text then globbed (glob_pattern text true) else Ok (Name text)

-- Empty components are passed over.
abbrev pub is_some_byte : List ℕ → Bool
is_some_byte part = not (length part == 0)

abbrev pub parts_of : Path → List (List ℕ)
parts_of path = filter is_some_byte (slice_split is_slash path)

abbrev pub components_next : Result Component AtByte → (Component → Result (List Component) AtByte)
    → Result (List Component) AtByte
components_next (Ok component) rest = rest component
components_next (Err broken) rest = Err broken

abbrev pub components_from : List Component → List (List ℕ) → Result (List Component) AtByte
components_from components [] = Ok components
components_from components (part ∷ parts) =
    components_next (component_of part) (λ component. components_from (components ++ component ∷ []) parts)

abbrev pub components_of : Path → Result (List Component) AtByte
components_of path = components_from [] (parts_of path)

-- ---- what a path names

-- The path of a name in a directory.
abbrev pub in_directory : Path → List ℕ → Path
in_directory directory name = if length directory == 1 then directory ++ name else directory ++ slash ∷ name

abbrev pub matches : Pattern → List ℕ → Bool
matches pattern name = is_some (first_match name pattern)

abbrev pub paths_among : Pattern → Path → Option (List (List ℕ)) → List Path
paths_among pattern directory None = []
paths_among pattern directory (Some names) = map (in_directory directory) (filter (matches pattern) names)

unfoldable pub with_names : Pattern → List Path → Path → Step AtByte (List Path)
with_names pattern paths directory =
    names_at directory >>= λ names. leaves (paths ++ paths_among pattern directory names)

-- A name is put to each path; a glob gives each path those names of that directory that it matches.
unfoldable pub followed : List Path → Component → Step AtByte (List Path)
followed paths (Name name) = leaves (map (λ path. in_directory path name) paths)
followed paths (Glob pattern) = in_order (with_names pattern) [] paths

unfoldable pub paths_of : List Component → Step AtByte (List Path)
paths_of components = in_order followed (root ∷ []) components

abbrev pub is_there : Kind → Bool
is_there Absent = false
is_there Dir = true
is_there File = true

-- What is there of the paths, and whether some of it has no text.
abbrev pub with_found : Candidates → Path → Found → Candidates
with_found among path found =
    if is_there found.kind
    then record { files = among.files ++ path ∷ []; lacks_text = among.lacks_text || not (is_some found.text) }
    else among

unfoldable pub with_text : Candidates → Path → Step AtByte Candidates
with_text among path = text_at path >>= λ found. leaves (with_found among path found)

unfoldable pub texts_of : List Path → Step AtByte Candidates
texts_of paths = in_order with_text (record { files = []; lacks_text = false }) paths

-- Each once, in byte order.
abbrev pub in_byte_order : List Path → List Path
in_byte_order paths = ordered (slice_cmp nat_cmp) paths

-- ---- an Include

-- A relative path is taken from the server root.
abbrev pub below_root : Option Path → List ℕ → Result Path AtByte
below_root (Some directory) path = Ok (directory ++ slash ∷ path)
below_root None path = Err (rule NO_SERVER_ROOT)

abbrev pub path_of : Option Path → List ℕ → Result Path AtByte
path_of server_root path = if begins_with_slash path then Ok path else below_root server_root path

abbrev pub components_at : Result Path AtByte → Result (List Component) AtByte
components_at (Ok path) = components_of path
components_at (Err broken) = Err broken

-- Why files can't be read where the reading stands.
abbrev pub is_around : Around → Path → Bool
is_around around path = is_among around.chain path

abbrev pub include_refusal : Around → Bool → Candidates → Option ℕ
include_refusal around optional among =
    if length among.files == 0 then (if optional then None else Some INCLUDE_MISSING)
    else if list_any (is_around around) among.files then Some INCLUDE_CYCLE
    else if around.room == 0 then Some INCLUDE_TOO_DEEP
    else if among.lacks_text then Some CONTENT_MISSING
    else None

abbrev pub unless_refused : Option ℕ → List Path → Result (List Path) AtByte
unless_refused None files = Ok files
unless_refused (Some code) files = Err (rule code)

abbrev pub files_among : Around → Bool → Candidates → Result (List Path) AtByte
files_among around optional among = unless_refused (include_refusal around optional among) (in_byte_order among.files)

-- What was found, or its refusal.
abbrev pub given : {A : Type 0} → Result A AtByte → Step AtByte A
given (Ok value) = leaves value
given (Err broken) = ends broken

unfoldable pub files_named : Around → Bool → Result (List Component) AtByte → Step AtByte (List Path)
files_named around optional (Err broken) = ends broken
files_named around optional (Ok components) = do
  paths ← paths_of components
  among ← texts_of paths
  given (files_among around optional among)

-- The files that an Include reads.
abbrev pub include_files : Around → Bool → Option Path → List ℕ → Step AtByte (List Path)
include_files around optional server_root path = files_named around optional (components_at (path_of server_root path))
