-- Request targets, as they are read.
use Rattle.std.specs.Prelude.{◌≡◌, ℕ, List, [], ◌∷◌, ◌++◌, true, Option, Some, None}
use Rattle.std.specs.Prelude.{if◌then◌else◌}
use Rattle.std.specs.List.{after_first, before_first, list_all}
use Rattle.percent_encoding.specs.Percent.{percent_decode}
use Rattle.hc_base.specs.Bytes.{is_question, question}
use Rattle.hc_target.specs.declared.target.TargetRead.{TargetRead}
use Rattle.hc_target.specs.declared.target.TargetRead.TheVariants.{Bad400, Miss404, Path, PathByte}
use Rattle.hc_target.specs.Escapes.{escaped, escapes_slash, has_bad_escape}
use Rattle.hc_target.specs.Segments.{is_normal, is_plain, normal_path}

-- What a decoded path gives.
abbrev pub found : Option (List ℕ) → List ℕ → TargetRead
found None query = Bad400
found (Some path) query = Path path query

abbrev pub read_decoded : List ℕ → List ℕ → TargetRead
read_decoded path query = if list_all is_plain path then found (normal_path path) query else PathByte

-- What a path gives as it is sent: bad escapes are told first, and then escaped slashes.
abbrev pub read_sent : List ℕ → List ℕ → TargetRead
read_sent path query =
    if has_bad_escape path then Bad400
    else if escapes_slash path then Miss404
    else read_decoded (percent_decode path) query

-- The path stands before the first `?`, and the query behind it.
abbrev pub read : List ℕ → TargetRead
read target = read_sent (before_first is_question target) (after_first is_question target)

-- A path is normal where there is one.
abbrev pub HasNormalPath : TargetRead → Type 0
HasNormalPath Bad400 = Unit {0}
HasNormalPath Miss404 = Unit {0}
HasNormalPath (Path path query) = is_normal path ≡ true
HasNormalPath PathByte = Unit {0}

-- A normal path that is escaped is read back, without a query and with any.
abbrev pub IsReadBack : List ℕ → List ℕ → Type 0
IsReadBack path query =
    is_normal path ≡ true
    → (read (escaped path) ≡ Path path []) × (read (escaped path ++ question ∷ query) ≡ Path path query)
