-- What is kept of directories whose `.htaccess` was read.
use Rattle.std.specs.Prelude.{◌≡◌, ℕ, List, map, Option, Some, None, Result, Ok, Err}
use Rattle.std.specs.Borrow.{GName}
use Rattle.std.specs.List.{AllByRecursion, find}
use Rattle.hc_base.specs.declared.place.Refusal.{Refusal}
use Rattle.hc_model.specs.Overrides.{Loaded, Override, Reading, file, file_of, none, refused}
use Rattle.hc_model.specs.World.{World}
use Rattle.hc_model.specs.declared.config.Config.{Config}
use Rattle.hc_model.specs.declared.section.Allowed.{Allowed}
use Rattle.hc_model.specs.declared.section.HtFile.{HtFile}
use Rattle.hc_steps.specs.Step.{Path}
use Rattle.hc_htaccess.specs.Pairs.{is_for}
use Rattle.hc_htaccess.specs.Reading.{reading_in, size_in}
use Rattle.hc_htaccess.specs.declared.plain.Kept.{Kept}

-- What no load changes: the files, the configuration, and which counter counts the bytes.
pub record Fixed : Type 0 where
  pub files : World
  pub config : Config
  pub counter : GName

abbrev pub reading_by : Fixed → Reading
reading_by fixed = reading_in fixed.files fixed.config

abbrev pub size_by : Fixed → Path → ℕ
size_by fixed = size_in fixed.files

-- A world and a configuration, and what was read of them.
pub record Plain : Type 0 where
  pub world : World
  pub config : Config
  pub kept : List Kept

abbrev pub reading_of : Plain → Reading
reading_of plain = reading_in plain.world plain.config

abbrev pub loaded_as : Kept → Loaded
loaded_as kept = record { dir = kept.dir; allowed = kept.allowed }

abbrev pub loaded_of : Plain → List Loaded
loaded_of plain = map loaded_as plain.kept

-- Each is what reading it gives.
abbrev pub IsKept : Reading → Kept → Type 0
IsKept reading kept = kept.file ≡ file_of (reading kept.dir kept.allowed)

abbrev pub AreKept : Reading → List Kept → Type 0
AreKept reading kept = AllByRecursion (IsKept reading) kept

-- The first that is kept of a directory for what is allowed there.
abbrev pub kept_for : Path → Allowed → List Kept → Option Kept
kept_for dir allowed kept = find (λ each. is_for (loaded_as each) dir allowed) kept

-- A file that is refused, or else the file if there is one.
abbrev pub answer_of : Override → Result (Option HtFile) Refusal
answer_of (refused refusal) = Err refusal
answer_of none = Ok None
answer_of (file found) = Ok (Some found)
