-- What may stand in the `.htaccess` of a directory, and which of these files are read.
-- Apache manual, core, AllowOverride. That the last line counts over all that is above a directory, and the place of
-- such a file, are our own choice.
use Rattle.std.specs.Prelude.{◌≡◌, Contains, List, [], ◌∷◌, ◌++◌, Bool, false, not, ◌||◌, unwrap_or}
use Rattle.std.specs.Prelude.{Option, Some, None, if◌then◌else◌, codes}
use Rattle.std.specs.List.{AllByRecursion, flat_map, fold}
use Rattle.hc_base.specs.Bytes.{slash}
use Rattle.hc_base.specs.Paths.{ends_with_slash}
use Rattle.hc_model.specs.Overrides.{Loaded, Reading, file_of}
use Rattle.hc_model.specs.World.{parents}
use Rattle.hc_model.specs.declared.config.Config.{Config}
use Rattle.hc_model.specs.declared.config.HostId.{HostId}
use Rattle.hc_model.specs.declared.section.Allowed.{Allowed}
use Rattle.hc_model.specs.declared.section.Body.{out-Body}
use Rattle.hc_model.specs.declared.section.HtFile.{HtFile}
use Rattle.hc_model.specs.declared.section.Section.{Section, out-Section}
use Rattle.hc_model.specs.declared.spot.Spot.{Spot}
use Rattle.hc_merge.specs.Candidates.{Candidate, Path, sections_at, sections_of}

abbrev pub nothing_allowed : Allowed
nothing_allowed = record { auth = false; file_info = false; indexes = false; limit = false; options = false }

abbrev pub allows_nothing : Allowed → Bool
allows_nothing allowed = not (allowed.auth || allowed.file_info || allowed.indexes || allowed.limit || allowed.options)

-- The last line counts.
abbrev pub allowed_by : Allowed → Section → Allowed
allowed_by so_far section = unwrap_or (out-Body (out-Section section).body).allow so_far

abbrev pub allowed_behind : Allowed → List Section → Allowed
allowed_behind so_far sections = fold allowed_by so_far sections

-- What may stand in a `.htaccess` of a directory: by the sections of it and of those above it.
abbrev pub allowed : Config → HostId → Path → Allowed
allowed config host dir =
    allowed_behind nothing_allowed (flat_map (sections_at (sections_of config host)) (parents dir ++ dir ∷ []))

-- A `.htaccess` is read where something is allowed.
abbrev pub wants : Path → Allowed → List Loaded
wants dir allowed = if allows_nothing allowed then [] else record { dir = dir; allowed = allowed } ∷ []

-- Those of the directories of a walk, each for what is allowed there.
abbrev pub wanted : List (List Section) → Allowed → List Path → List Loaded
wanted lists so_far [] = []
wanted lists so_far (dir ∷ dirs) =
    wants dir (allowed_behind so_far (sections_at lists dir)) ++ wanted lists
    (allowed_behind so_far (sections_at lists dir)) dirs

abbrev pub wanted_by : Config → HostId → List Path → List Loaded
wanted_by config host dirs = wanted (sections_of config host) nothing_allowed dirs

abbrev pub AreLoaded : List Loaded → List Loaded → Type 0
AreLoaded loaded wanted = AllByRecursion (Contains loaded) wanted

-- The `.htaccess` of a directory, by what is allowed there.
abbrev pub Files_at : Type 0
Files_at = Path → Allowed → Option HtFile

abbrev pub files_read : Reading → Files_at
files_read reading dir allowed = file_of (reading dir allowed)

abbrev pub htaccess_of : Path → Path
htaccess_of dir = (if ends_with_slash dir then dir else dir ++ slash ∷ []) ++ codes ".htaccess"

-- Such a file has no line and an empty span.
abbrev pub override_spot : Path → Spot
override_spot dir = record { place = record { file = htaccess_of dir; line = 0 }; span = record { start = 0; end = 0 } }

abbrev pub override_of : Path → HtFile → Candidate
override_of dir file =
    record { spot = override_spot dir; dir = Some dir; reach = None; parent = None; body = file.body }

abbrev pub overriding : Path → Option HtFile → List Candidate
overriding dir None = []
overriding dir (Some file) = override_of dir file ∷ []

-- No directory has one.
abbrev pub no_files : Files_at
no_files dir allowed = None

-- The same for each of these.
abbrev pub AgreeAt : Files_at → Files_at → List Loaded → Type 0
AgreeAt one other wanted = AllByRecursion (λ each. one each.dir each.allowed ≡ other each.dir each.allowed) wanted

abbrev pub override_at : Files_at → Path → Allowed → List Candidate
override_at files dir allowed = if allows_nothing allowed then [] else overriding dir (files dir allowed)
