-- The lines of a text, and what stands between its blanks.
-- Apache manual, "Configuration Files": a directive stands on one line, and its arguments are
-- separated by white space. What a last piece without LF counts for is our own choice.
use Rattle.std.specs.Prelude.{◌≡◌, ℕ, ◌==◌, List, [], ◌∷◌, ◌++◌, length, Bool, false, not}
use Rattle.std.specs.Prelude.{◌||◌, filter, if◌then◌else◌}
use Rattle.std.specs.List.{AllByRecursion, flat_map, list_any, slice_split}
use Rattle.hc_base.specs.Bytes.{lf, space, tab}

abbrev pub is_lf : ℕ → Bool
is_lf b = b == lf

-- A byte before the first line is put at that line's front, if there is a line.
abbrev pub onto_line : ℕ → List (List ℕ) → List (List ℕ)
onto_line b [] = []
onto_line b (line ∷ lines) = (b ∷ line) ∷ lines

-- The lines that an LF ends, without their LFs.
abbrev pub whole_lines : List ℕ → List (List ℕ)
whole_lines [] = []
whole_lines (b ∷ bs) = if is_lf b then [] ∷ whole_lines bs else onto_line b (whole_lines bs)

-- What follows the last LF.
abbrev pub rest_of : List ℕ → List ℕ
rest_of [] = []
rest_of (b ∷ bs) = if is_lf b || list_any is_lf bs then rest_of bs else b ∷ bs

-- The bytes have no LF.
abbrev pub HasNoLf : List ℕ → Type 0
HasNoLf bytes = list_any is_lf bytes ≡ false

-- A text is these lines, each with the LF that ends it, and then this rest.
pub record IsCutInto (text : List ℕ) (lines : List (List ℕ)) (rest : List ℕ) : Type 0 where
  pub whole : text ≡ flat_map (λ line. line ++ lf ∷ []) lines ++ rest
  pub each : AllByRecursion HasNoLf lines
  pub last : HasNoLf rest

-- `whole_lines` and `rest_of` are the one way to cut a text so.
pub record AreLinesOf (text : List ℕ) : Type 0 where
  pub cut : IsCutInto text (whole_lines text) (rest_of text)
  pub only : (lines : List (List ℕ)) (rest : List ℕ) → IsCutInto text lines rest → (lines ≡ whole_lines text)
      × (rest ≡ rest_of text)

abbrev pub onto_piece : ℕ → List (List ℕ) → List (List ℕ)
onto_piece b [] = (b ∷ []) ∷ []
onto_piece b (piece ∷ pieces) = (b ∷ piece) ∷ pieces

-- The physical lines of a text, each with the LF that ends it; the last one may have none.
abbrev pub pieces : List ℕ → List (List ℕ)
pieces [] = []
pieces (b ∷ bs) = if is_lf b then (b ∷ []) ∷ pieces bs else onto_piece b (pieces bs)

-- Blanks are space and tab.
abbrev pub is_blank : ℕ → Bool
is_blank b = (b == space) || (b == tab)

-- What stands between the blanks of a text and isn't empty.
abbrev pub between_blanks : List ℕ → List (List ℕ)
between_blanks line = filter (λ word. not (length word == 0)) (slice_split is_blank line)
