-- Absolute paths, as bytes.
use Rattle.std.specs.Prelude.{ℕ, ◌-◌, ◌==◌, List, [], ◌∷◌, length, take, nat_lt, Bool, false, not}
use Rattle.std.specs.Prelude.{◌&&◌, ◌||◌, if◌then◌else◌}
use Rattle.std.specs.List.{list_any, slice_split}
use Rattle.hc_base.specs.Bytes.{begins_with, dot, ends_with, slash}

abbrev pub is_slash : ℕ → Bool
is_slash b = b == slash

abbrev pub begins_with_slash : List ℕ → Bool
begins_with_slash path = begins_with slash path

abbrev pub ends_with_slash : List ℕ → Bool
ends_with_slash path = ends_with slash path

-- Two slashes stand beside each other.
abbrev pub has_double_slash : List ℕ → Bool
has_double_slash [] = false
has_double_slash (b ∷ []) = false
has_double_slash (b ∷ c ∷ bs) = (is_slash b && is_slash c) || has_double_slash (c ∷ bs)

-- The segment `.` or `..`.
abbrev pub is_dots : List ℕ → Bool
is_dots [] = false
is_dots (a ∷ []) = a == dot
is_dots (a ∷ b ∷ []) = (a == dot) && (b == dot)
is_dots (a ∷ b ∷ c ∷ rest) = false

-- A segment between slashes is `.` or `..`.
abbrev pub has_dots : List ℕ → Bool
has_dots path = list_any is_dots (slice_split is_slash path)

-- A path is clean where it begins with a slash and has no `//` and no `.` or `..` between slashes.
abbrev pub is_clean : List ℕ → Bool
is_clean path = begins_with_slash path && not (has_double_slash path) && not (has_dots path)

-- The path with each run of slashes as one.
abbrev pub merge_slashes : List ℕ → List ℕ
merge_slashes [] = []
merge_slashes (b ∷ []) = b ∷ []
merge_slashes (b ∷ c ∷ bs) = if (is_slash b && is_slash c) then merge_slashes (c ∷ bs)
    else b ∷ merge_slashes (c ∷ bs)

-- A final slash is dropped, but for `/`.
abbrev pub without_final_slash : List ℕ → List ℕ
without_final_slash path = if nat_lt 1 (length path) && ends_with_slash path then take (length path - 1) path else path
