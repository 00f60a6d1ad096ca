-- What the rows of entries are seen as. The texts of all rows stand one behind another, and rows of one
-- file that stand behind one another share it.
use Rattle.std.specs.Prelude.{◌≡◌, ℕ, ◌+◌, ◌-◌, ◌<◌, ◌≤◌, List, [], ◌∷◌, ◌++◌}
use Rattle.std.specs.Prelude.{length, map, take, get_or, slice_get, slice_range, Bool, false, Option}
use Rattle.std.specs.List.{AllByRecursion}
use Rattle.std.specs.Str.{IsUtf8, bytes_eq}
use Rattle.hc_base.specs.declared.place.Span.{Span}
use Rattle.hc_model.specs.declared.entry.Entry.{Entry}
use Rattle.hc_model.specs.declared.entry.EntryForm.TheVariants.{Close}
use Rattle.hc_model.specs.declared.spot.Spot.{Spot}
use Rattle.hc_flat.specs.declared.entries.EntryRow.{EntryRow}
use Rattle.hc_flat.specs.declared.entries.EntryView.{EntryView}

abbrev pub spot_at : List ℕ → ℕ → Span → Spot
spot_at file line span = record { place = record { file = file; line = line }; span = span }

-- What an entry that is lent says.
abbrev pub entry_of : EntryView → Entry
entry_of view = record {
  spot = spot_at view.file.now view.line view.span;
  form = view.form;
  name = view.name.now;
  rest = view.rest.now;
}

-- ---- files

abbrev pub file_at : List (List ℕ) → ℕ → List ℕ
file_at files number = get_or files number []

-- The file is the last of these.
abbrev pub is_last : List (List ℕ) → List ℕ → Bool
is_last [] file = false
is_last (first ∷ files) file = bytes_eq (file_at (first ∷ files) (length files)) file

-- These are files from which later ones were made, of which this one is the last.
pub record EndsWith (file : List ℕ) (files later : List (List ℕ)) : Type 0 where
  pub more : List (List ℕ)
  pub longer : later ≡ files ++ more
  pub some : 0 < length later
  pub last : file_at later (length later - 1) ≡ file

-- ---- rows

-- The entry of a row.
abbrev pub row_seen : List (List ℕ) → List ℕ → EntryRow → Entry
row_seen files texts row = record {
  spot = spot_at (file_at files row.file) row.line row.span;
  form = row.form;
  name = slice_range texts row.name row.rest;
  rest = slice_range texts row.rest row.end;
}

abbrev pub rows_seen : List (List ℕ) → List ℕ → List EntryRow → List Entry
rows_seen files texts rows = map (row_seen files texts) rows

-- A text may be cut at this place.
pub record IsCut (text : List ℕ) (at : ℕ) : Type 0 where
  pub within : at ≤ length text
  pub front : IsUtf8 (take at text)

-- The row has its file and its texts.
pub record IsFilled (files : List (List ℕ)) (texts : List ℕ) (row : EntryRow) : Type 0 where
  pub file : row.file < length files
  pub name : IsCut texts row.name
  pub rest : IsCut texts row.rest
  pub end : IsCut texts row.end
  pub in_order : (row.name ≤ row.rest) × (row.rest ≤ row.end)

abbrev pub Fit : List (List ℕ) → List ℕ → List EntryRow → Type 0
Fit files texts rows = AllByRecursion (IsFilled files texts) rows

-- The row of an entry of the last of so many files, behind so many bytes.
abbrev pub row_behind : ℕ → ℕ → Entry → EntryRow
row_behind files texts entry = record {
  file = files - 1;
  line = entry.spot.place.line;
  span = entry.spot.span;
  form = entry.form;
  name = texts;
  rest = texts + length entry.name;
  end = texts + length entry.name + length entry.rest;
}

-- ---- closes

-- The close of an opening, which is the first of these entries.
abbrev pub close_of : Spot → List Entry → List Entry
close_of spot [] = []
close_of spot (opening ∷ entries) = record opening { spot = spot; form = Close } ∷ []

-- The last of the places of openings.
abbrev pub innermost : List ℕ → Option ℕ
innermost openings = slice_get openings (length openings - 1)
