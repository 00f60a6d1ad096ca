-- The `.htaccess` files that were read, as long as their texts stay. Our own choice.
use Rattle.std.specs.Prelude.{◌≡◌, ℕ, ◌≤◌, List, [], ◌∷◌, ◌++◌, map, filter, Bool, true}
use Rattle.std.specs.Prelude.{Contains, Option, Result}
use Rattle.std.specs.Borrow.{GName}
use Rattle.std.specs.List.{AllByRecursion}
use Rattle.hc_base.specs.declared.place.Refusal.{Refusal}
use Rattle.hc_cache.specs.Entries.{is_current}
use Rattle.hc_htaccess.specs.Loading.{Fixed, answer_of}
use Rattle.hc_htaccess.specs.Reading.{reading_in}
use Rattle.hc_merge.specs.Overriding.{htaccess_of}
use Rattle.hc_model.specs.Overrides.{Loaded, Reading}
use Rattle.hc_model.specs.declared.config.Config.{Config}
use Rattle.hc_model.specs.declared.read.Read.{Read}
use Rattle.hc_model.specs.declared.read.Read.TheVariants.{TextOf}
use Rattle.hc_model.specs.declared.section.Allowed.{Allowed}
use Rattle.hc_model.specs.declared.section.HtFile.{HtFile}
use Rattle.hc_steps.specs.Step.{Path}
use Rattle.hc_world.specs.Edits.{Edited}
use Rattle.hc_kept.specs.declared.cached.FreshFile.{FreshFile}

-- A directory, what is allowed there, and what reading its `.htaccess` gave; with the number of the last edit
-- before that.
pub record KeptFile : Type 0 where
  pub dir : Path
  pub allowed : Allowed
  pub found : Result (Option HtFile) Refusal
  pub at : ℕ

-- What it rests on, beside the configuration.
abbrev pub reads_of : Path → List Read
reads_of dir = TextOf (htaccess_of dir) ∷ []

abbrev pub is_current_file : Edited → KeptFile → Bool
is_current_file world file = is_current world (reads_of file.dir) file.at

-- While its text stays, it is what reading it gives.
pub record IsFileOf (world : Edited) (config : Config) (file : KeptFile) : Type 0 where
  pub age : file.at ≤ world.edits
  pub found :
      is_current_file world file ≡ true
      → file.found ≡ answer_of (reading_in world.files config file.dir file.allowed)

abbrev pub AreFilesOf : Edited → Config → List KeptFile → Type 0
AreFilesOf world config files = (file : KeptFile) → Contains files file → IsFileOf world config file

-- ---- as the `.htaccess` files of a world

-- What reading it gives now.
abbrev pub IsFresh : Reading → FreshFile → Type 0
IsFresh reading file = file.found ≡ answer_of (reading file.dir file.allowed)

abbrev pub AreFresh : Reading → List FreshFile → Type 0
AreFresh reading files = AllByRecursion (IsFresh reading) files

-- A world and a configuration, what was kept of them before, and what was read since.
pub record Cached : Type 0 where
  pub world : Edited
  pub config : Config
  pub kept : List KeptFile
  pub fresh : List FreshFile

abbrev pub reading_of : Cached → Reading
reading_of cached = reading_in cached.world.files cached.config

-- What no load changes of it, and of what counts the bytes.
abbrev pub fixed_of : Cached → GName → Fixed
fixed_of cached counter = record { files = cached.world.files; config = cached.config; counter = counter }

-- All of it is right.
pub record AreRight (cached : Cached) : Type 0 where
  pub kept : AreFilesOf cached.world cached.config cached.kept
  pub fresh : AreFresh (reading_of cached) cached.fresh

abbrev pub as_loaded : KeptFile → Loaded
as_loaded file = record { dir = file.dir; allowed = file.allowed }

abbrev pub fresh_as_loaded : FreshFile → Loaded
fresh_as_loaded file = record { dir = file.dir; allowed = file.allowed }

-- Those that were kept and whose texts have stayed, and those that were read since.
abbrev pub loaded_of : Cached → List Loaded
loaded_of cached =
    map as_loaded (filter (is_current_file cached.world) cached.kept) ++ map fresh_as_loaded cached.fresh

-- That of a directory is, for what is allowed there.
abbrev pub IsLoaded : Cached → Path → Allowed → Type 0
IsLoaded cached dir allowed = Contains (loaded_of cached) (record { dir = dir; allowed = allowed })

-- What was read of a world is kept with what was kept before, whatever the configuration is under which all of it was
-- read.
abbrev pub KeepsFresh : Edited → List KeptFile → List FreshFile → List KeptFile → Type 0
KeepsFresh world old fresh new =
    (config : Config) → AreFilesOf world config old → AreFresh (reading_in world.files config) fresh
    → AreFilesOf world config new

-- Each is among what is kept.
abbrev pub AllKept : List FreshFile → List KeptFile → Type 0
AllKept fresh files = (file : FreshFile) → Contains fresh file
    → Contains (map as_loaded files) (fresh_as_loaded file)
