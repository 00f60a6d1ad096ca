-- The way of the looks at `.htaccess` files, by which of them is refused, and the sections in force by those that are
-- left.
use Rattle.hc_abs_name.proofs.Common.{◌≡◌, ◌∙◌, List, [], ◌∷◌, ◌++◌, map, Bool, true, false, if◌then◌else◌}
use Rattle.hc_abs_name.proofs.Common.{Some, None, refl, ap}
use Rattle.hc_htaccess.proofs.Pairs.{is_for_Decides}
use Rattle.hc_htaccess.specs.Pairs.{is_for}
use Rattle.hc_htaccess.specs.Reading.{reading_in}
use Rattle.hc_merge.specs.Candidates.{Path, at_directory, sections_at, sections_of}
use Rattle.hc_merge.specs.Order.{first_group, ordered_sections}
use Rattle.hc_merge.specs.Overriding.{AgreeAt, Files_at, allowed_behind, allows_nothing, files_read, no_files}
use Rattle.hc_merge.specs.Overriding.{nothing_allowed, override_at, overriding, wanted, wanted_by}
use Rattle.hc_model.specs.Overrides.{Loaded, Override, Reading, file, file_of, none, refused}
use Rattle.hc_model.specs.World.{World}
use Rattle.hc_model.specs.declared.config.Config.{Config}
use Rattle.hc_model.specs.declared.config.HostId.{HostId}
use Rattle.hc_model.specs.declared.section.Allowed.{Allowed}
use Rattle.hc_model.specs.declared.section.Section.{Section}
use Rattle.hc_serve.specs.Files.{files_left, with_reading}
unfoldable use Rattle.hc_serve.specs.Passing.{file_looked, files_looked, left_by}
use Rattle.hc_serve.specs.Passing.{with_file}
unfoldable use Rattle.hc_steps.specs.Run.{run}
use Rattle.hc_steps.specs.Shown.{shown_by}
unfoldable use Rattle.hc_steps.specs.Step.{◌>>=◌}
use Rattle.hc_steps.specs.Step.{in_order}
use Rattle.hc_abs_name.specs.Reading.{first_refused, refused_or, way_by}

-- ---- one file after another

module _ (config : Config) (world : World) where
  abbrev reading : Reading
  reading = reading_in world config

  looked : (files : Files_at) (each : Loaded) (more : List Loaded)
      → ((files : Files_at) → (run (in_order (file_looked config) files more) (shown_by world)).way
      ≡ way_by (first_refused reading more) (files_left reading files more)) → (override : Override)
      → (run (left_by files each override >>= λ files. in_order (file_looked config) files more) (shown_by world)).way
      ≡ way_by (refused_or override (first_refused reading more))
      (files_left reading (with_file each (file_of override) files) more)
  unfolding run ◌>>=◌ left_by
  looked files each more rest (refused refusal) = refl
  looked files each more rest none = rest (with_file each None files)
  looked files each more rest (file found) = rest (with_file each (Some found) files)

  each_looked : (files : Files_at) (wanted : List Loaded)
      → (run (in_order (file_looked config) files wanted) (shown_by world)).way
      ≡ way_by (first_refused reading wanted) (files_left reading files wanted)
  unfolding run ◌>>=◌ file_looked
  each_looked files [] = refl
  each_looked files (each ∷ more) =
      looked files each more (λ files. each_looked files more) (reading each.dir each.allowed)

  pub looked_way : (wanted : List Loaded) → (run (files_looked config wanted) (shown_by world)).way
      ≡ way_by (first_refused reading wanted) (files_left reading no_files wanted)
  unfolding files_looked
  looked_way wanted = each_looked no_files wanted

-- ---- the files that are left agree with what was read

module _ (reading : Reading) where
  read_over : (files : Files_at) (each : Loaded) (dir : Path) (allowed : Allowed) (is : Bool)
      → is_for each dir allowed ≡ is → files dir allowed ≡ files_read reading dir allowed
      → (if is then file_of (reading each.dir each.allowed) else files dir allowed) ≡ files_read reading dir allowed
  read_over files each dir allowed true is agree =
      let same = (is_for_Decides each dir allowed).0 is in
      ap (λ dir. file_of (reading dir each.allowed)) same.0 ∙ ap (λ allowed. file_of (reading dir allowed)) same.1
  read_over files each dir allowed false is agree = agree

  still_agree : (dir : Path) (allowed : Allowed) (files : Files_at) (wanted : List Loaded)
      → files dir allowed ≡ files_read reading dir allowed
      → files_left reading files wanted dir allowed ≡ files_read reading dir allowed
  still_agree dir allowed files [] agree = agree
  still_agree dir allowed files (each ∷ more) agree =
      still_agree dir allowed (with_reading reading files each) more
      (read_over files each dir allowed (is_for each dir allowed) refl agree)

  left_agree : (files : Files_at) (wanted : List Loaded)
      → AgreeAt (files_left reading files wanted) (files_read reading) wanted
  left_agree files [] = tt
  left_agree files (each ∷ more) =
      let own : is_for each each.dir each.allowed ≡ true =
      (is_for_Decides each each.dir each.allowed).1 (refl, refl) in (
        still_agree each.dir each.allowed (with_reading reading files each) more
            (ap (λ is. if is then file_of (reading each.dir each.allowed) else files each.dir each.allowed) own),
        left_agree (with_reading reading files each) more,
      )

-- ---- files that agree where they are wanted

module _ (one other : Files_at) where
  agree_here : (dir : Path) (allowed : Allowed) (none : Bool) (behind : List Loaded)
      → AgreeAt one other ((if none then [] else record { dir = dir; allowed = allowed } ∷ []) ++ behind)
      → ((if none then [] else overriding dir (one dir allowed))
      ≡ (if none then [] else overriding dir (other dir allowed))) × AgreeAt one other behind
  agree_here dir allowed true behind agree = (refl, agree)
  agree_here dir allowed false behind agree = (ap (overriding dir) agree.0, agree.1)

  same_first : (lists : List (List Section)) (so_far : Allowed) (dirs : List Path)
      → AgreeAt one other (wanted lists so_far dirs)
      → first_group lists one so_far dirs ≡ first_group lists other so_far dirs
  same_first lists so_far [] agree = refl
  same_first lists so_far (dir ∷ dirs) agree =
      let own = sections_at lists dir in
      let later = allowed_behind so_far own in
      let here = agree_here dir later (allows_nothing later) (wanted lists later dirs) agree in
      ap (λ files. map (at_directory dir) own ++ files ++ first_group lists one later dirs) here.0
      ∙ ap (λ rest. map (at_directory dir) own ++ override_at other dir later ++ rest)
      (same_first lists later dirs here.1)

  same_ordered : (config : Config) (host : HostId) (dirs : List Path) → AgreeAt one other (wanted_by config host dirs)
      → ordered_sections config host one dirs ≡ ordered_sections config host other dirs
  same_ordered config host dirs agree = rw (same_first (sections_of config host) nothing_allowed dirs agree) refl

-- So the sections that may be in force are the same.
pub left_ordered : (reading : Reading) (config : Config) (host : HostId) (dirs : List Path)
    → ordered_sections config host (files_left reading no_files (wanted_by config host dirs)) dirs
    ≡ ordered_sections config host (files_read reading) dirs
left_ordered reading config host dirs =
    same_ordered (files_left reading no_files (wanted_by config host dirs)) (files_read reading) config host dirs
    (left_agree reading no_files (wanted_by config host dirs))
