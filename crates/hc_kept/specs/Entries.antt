-- The files by their keys, as they lie in the code.
use Rattle.std.specs.Prelude.{◌≡◌, ◌⊎◌, ℕ, List, true, false, map, Contains, Option, Result}
use Rattle.std.specs.List.{AllByRecursion, IsDistinct}
use Rattle.std.specs.Map.{keys_of}
use Rattle.hc_base.specs.declared.place.Refusal.{Refusal}
use Rattle.hc_cache.specs.declared.cache.Kept as cache
use Rattle.hc_model.specs.declared.section.Allowed.{Allowed}
use Rattle.hc_model.specs.declared.section.HtFile.{HtFile}
use Rattle.hc_steps.specs.Step.{Path}
use Rattle.hc_world.specs.Edits.{Edited}
use Rattle.hc_kept.specs.Files.{KeptFile, as_loaded, is_current_file, reads_of}
use Rattle.hc_kept.specs.Keys.{same_key}
use Rattle.hc_kept.specs.declared.key.FileKey.{FileKey}

-- What reading a file gave, and what is kept of it.
abbrev pub Found : Type 0
Found = Result (Option HtFile) Refusal

abbrev pub Kept : Type 0
Kept = cache.Kept Found

abbrev pub Entry : Type 0
Entry = FileKey × Kept

abbrev pub file_of : Entry → KeptFile
file_of e = record { dir = e.0.dir.items; allowed = e.0.allowed; found = e.1.value; at = e.1.at }

abbrev pub files_in : List Entry → List KeptFile
files_in entries = map file_of entries

-- It rests on its own text.
abbrev pub IsOwn : Entry → Type 0
IsOwn e = e.1.reads ≡ reads_of e.0.dir.items

-- So has each, and the keys differ.
pub record AreEntries (entries : List Entry) : Type 0 where
  pub own : AllByRecursion IsOwn entries
  pub differ : IsDistinct same_key (keys_of entries)

-- ---- a file of a directory for what is allowed there

abbrev pub file_for : Path → Allowed → Found → ℕ → KeptFile
file_for dir allowed found at = record { dir = dir; allowed = allowed; found = found; at = at }

-- It is there, and its text has stayed.
pub record IsCurrent (world : Edited) (files : List KeptFile) (dir : Path) (allowed : Allowed) (found : Found)
    : Type 0 where
  pub at : ℕ
  pub there : Contains files (file_for dir allowed found at)
  pub stays : is_current_file world (file_for dir allowed found at) ≡ true

-- There is none whose text has stayed.
abbrev pub HasNoCurrent : Edited → List KeptFile → Path → Allowed → Type 0
HasNoCurrent world files dir allowed =
    (file : KeptFile) → Contains files file → file.dir ≡ dir → file.allowed ≡ allowed
    → is_current_file world file ≡ false

-- A file is put in the place of the one of its directory for what is allowed there.
pub record Puts (old new : List KeptFile) (file : KeptFile) : Type 0 where
  pub there : Contains new file
  pub others : (other : KeptFile) → Contains new other → (other ≡ file) ⊎ Contains old other
  pub stay : (other : KeptFile) → Contains old other → (as_loaded other ≡ as_loaded file) ⊎ Contains new other
