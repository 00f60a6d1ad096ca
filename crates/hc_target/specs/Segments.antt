-- Normal paths, and the normal path of any (RFC 3986, section 5.2.4, but for runs of slashes and a
-- `..` above the root: our own choice).
use Rattle.std.specs.Prelude.{ℕ, ◌==◌, List, [], ◌∷◌, ◌++◌, length, take, nat_le, nat_lt, Option, Some}
use Rattle.std.specs.Prelude.{None}
use Rattle.std.specs.Prelude.{Bool, true, false, not, ◌&&◌, ◌||◌, if◌then◌else◌}
use Rattle.std.specs.List.{flat_map, list_all, slice_split}
use Rattle.std.specs.Option.{option_map}
use Rattle.hc_base.specs.Bytes.{delete, dot, hash, last_byte, percent, question, slash, space}
use Rattle.hc_base.specs.Paths.{is_clean, is_slash}

-- A plain byte: none of blanks, controls, `%`, `?` and `#`.
abbrev pub is_plain : ℕ → Bool
is_plain b =
    (nat_lt space b && nat_le b last_byte) && not ((b == delete) || (b == percent) || (b == question) || (b == hash))

-- A path is normal where it is clean and of plain bytes.
abbrev pub is_normal : List ℕ → Bool
is_normal path = is_clean path && list_all is_plain path

-- An empty segment, or `.`.
abbrev pub is_still : List ℕ → Bool
is_still [] = true
is_still (b ∷ []) = b == dot
is_still (b ∷ c ∷ bs) = false

-- The segment `..`.
abbrev pub is_parent : List ℕ → Bool
is_parent [] = false
is_parent (b ∷ []) = false
is_parent (b ∷ c ∷ []) = (b == dot) && (c == dot)
is_parent (b ∷ c ∷ d ∷ bs) = false

-- Where segments lead: the names from the root down, and whether a slash ends the path, since no
-- name came last.
pub record Reached : Type 0 where
  pub names : List (List ℕ)
  pub open_end : Bool

abbrev pub root : Reached
root = record { names = []; open_end = true }

-- The place above the last of these names; there is none above the root.
abbrev pub above : List (List ℕ) → Option Reached
above [] = None
above (name ∷ names) = Some (record { names = take (length names) (name ∷ names); open_end = true })

-- Where one more segment leads.
abbrev pub step : Reached → List ℕ → Option Reached
step at segment =
    if is_still segment then Some (record { names = at.names; open_end = true })
    else if is_parent segment then above at.names
    else Some (record { names = at.names ++ segment ∷ []; open_end = false })

-- Where all of these lead.
abbrev pub led_by : Option Reached → List (List ℕ) → Option Reached
led_by None segments = None
led_by (Some at) [] = Some at
led_by (Some at) (segment ∷ segments) = led_by (step at segment) segments

abbrev pub below : List ℕ → List ℕ
below segment = slash ∷ segment

-- The path to a place.
abbrev pub path_to : Reached → List ℕ
path_to at = flat_map below (at.names ++ (if at.open_end then [] ∷ [] else []))

-- The normal path of a path; none where it leads above the root.
abbrev pub normal_path : List ℕ → Option (List ℕ)
normal_path path = option_map path_to (led_by (Some root) (slice_split is_slash path))
