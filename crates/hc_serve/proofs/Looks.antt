-- What the looks at `.htaccess` files leave: the files that the code reads, at each directory where one is wanted.
use Rattle.hc_serve.proofs.Common.{◌≡◌, ◌∙◌, List, Result, Ok, Err, refl, sym, ap, subst, Logged, Ran, Run}
use Rattle.hc_serve.proofs.Common.{with_read}
use Rattle.std.proofs.Common.{◌-◌, ◌<◌, ◌≤◌, [], ◌∷◌, length, take, drop, get_or, map, arith, Bool}
use Rattle.std.proofs.Common.{true, false, if◌then◌else◌}
use Rattle.std.proofs.lemmas.List.{drop_more, length-drop, take_all}
use Rattle.std.specs.Result.{IsErrAnd}
use Rattle.hc_base.specs.declared.fault.Fault.{Fault}
use Rattle.hc_base.specs.declared.fault.Fault.TheVariants.{NoMemory, Refused}
use Rattle.hc_base.specs.declared.place.Refusal.{Refusal}
use Rattle.hc_htaccess.proofs.Pairs.{is_for_Decides}
use Rattle.hc_htaccess.specs.Pairs.{is_for}
use Rattle.hc_htaccess.specs.Reading.{found_there, reading_in}
use Rattle.hc_merge.specs.Overriding.{AgreeAt, Files_at, files_read, htaccess_of, no_files, wanted_by}
use Rattle.hc_merge.specs.WantedView.{loaded_of}
use Rattle.hc_merge.specs.declared.overriding.Wanted.{Wanted}
use Rattle.hc_merge.proofs.Loading.{wanted_files_suffice}
use Rattle.hc_model.specs.Overrides.{IsRead, Loaded, Override, Reading, file, file_of, none, refused}
use Rattle.hc_model.specs.World.{World}
use Rattle.hc_model.specs.declared.config.Config.{Config}
use Rattle.hc_model.specs.declared.outcome.Outcome.{Outcome}
use Rattle.hc_model.specs.declared.outcome.Outcome.TheVariants.{HtRefused}
use Rattle.hc_model.specs.declared.read.Read.TheVariants.{TextOf}
use Rattle.hc_model.specs.declared.section.Allowed.{Allowed}
use Rattle.hc_serve.specs.Files.{files_left, leaving, stopping, with_reading}
use Rattle.hc_serve.specs.Passing.{file_looked, force_at, left_by, view_at, with_file}
use Rattle.hc_serve.specs.Site.{Site}
use Rattle.hc_serve.specs.declared.stage.Walked.{Walked}
use Rattle.hc_steps.specs.Run.{run}
use Rattle.hc_steps.specs.Shown.{shown_by}
use Rattle.hc_steps.specs.Step.{Found, Path, Shown, in_order, text_at, ◌>>=◌}
use Rattle.hc_steps.proofs.Going.{ran_ends, ran_leaves, ran_looked, ran_no_further, ran_no_memory, ran_then}

-- ---- one file

-- What was read, and the step that its reading gives.
pub read_left : {A : Type 0} (files : Files_at) (each : Loaded) (override : Override)
    (result : Result A (Fault Refusal)) (log : Logged) (w : Shown)
    → IsRead result override → Ran (leaving (stopping result) (with_file each (file_of override) files)) log log
    (run (left_by files each override) w)
unfolding left_by
read_left files each (refused refusal) (Ok _) log w is = absurd is
read_left files each none (Ok _) log w is = ran_leaves Outcome _ _ log w refl
read_left files each (file found) (Ok _) log w is = ran_leaves Outcome _ _ log w refl
read_left files each override (Err (Refused refusal)) log w is =
    subst (λ override. Ran (Err (Refused (HtRefused refusal))) log log (run (left_by files each override) w)) (sym is)
    (ran_ends Files_at _ _ log w refl)
read_left files each override (Err NoMemory) log w is = ran_no_memory (left_by files each override) log log w

looked_log : (path : Path) (found : Found) (old new : Logged) (w : Shown)
    → Ran {E = Outcome} (Ok found) old new (run (text_at path) w) → new ≡ with_read old (TextOf path)
unfolding Ran run
looked_log path found old new w ran = ran.1

pub file_read : {A : Type 0} (config : Config) (world : World) (reading : Reading) (files : Files_at) (each : Loaded)
    (path : Path) (found : Found)
    (read : Result A (Fault Refusal)) (result : Result A (Fault Outcome)) (old new : Logged)
    → path ≡ htaccess_of each.dir → reading ≡ reading_in world config
    → Ran {E = Outcome} (Ok found) old new (run (text_at path) (shown_by world))
    → IsRead read (reading each.dir each.allowed) → result ≡ stopping read
    → Ran (leaving result (with_reading reading files each)) old new
    (run (file_looked config files each) (shown_by world))
unfolding file_looked ◌>>=◌
file_read config world reading files each path found read result old new at is looked cause left =
    let override = reading_in world config each.dir each.allowed in
    let now =
    read_left files each override read new (shown_by world)
    (subst (λ reading. IsRead read (reading each.dir each.allowed)) is cause) in
    let next =
    ran_looked (TextOf (htaccess_of each.dir))
    (λ found. left_by files each (found_there config each.dir each.allowed found)) (shown_by world) _ old new
    new
    (subst (λ path. new ≡ with_read old (TextOf path)) at (looked_log path found old new (shown_by world) looked))
    now in
    subst (λ result. Ran (leaving result (with_reading reading files each)) old new
    (run (file_looked config files each) (shown_by world))) (sym left)
    (subst (λ reading. Ran (leaving (stopping read) (with_reading reading files each)) old new
    (run (file_looked config files each) (shown_by world))) (sym is) next)

-- A `?` hands on the fault.
pub stopped : {A E : Type 0} (r : Run E Files_at) (result : Result A (Fault E)) (files : Files_at) (fault : Fault E)
    (old new : Logged)
    → IsErrAnd result (λ other. other ≡ fault) → Ran (Err fault) old new r
    → Ran (leaving result files) old new r
stopped r (Ok _) files fault old new is ran = absurd is
stopped r (Err other) files fault old new is ran = subst (λ other. Ran (Err other) old new r) (sym is) ran

-- ---- one file after another

module _ (config : Config) (w : Shown) (reading : Reading) (files : Files_at) where
  pub none_looked : (wanted : List Wanted) (log : Logged) → length wanted < 1
      → Ran (Ok (files_left reading files (map loaded_of wanted))) log log
      (run (in_order (file_looked config) files (map loaded_of wanted)) w)
  none_looked [] log below = ran_leaves Outcome files files log w refl
  none_looked (each ∷ more) log below = absurd (omega (arith, below))

  module _ (each : Loaded) (all more : List Loaded) (is : all ≡ each ∷ more) (old now : Logged) where
    pub first_stopped : (fault : Fault Outcome)
        → Ran {A = Files_at} (Err fault) old now (run (file_looked config files each) w)
        → Ran {A = Files_at} (Err fault) old now (run (in_order (file_looked config) files all) w)
    first_stopped fault ran =
        subst (λ all. Ran {A = Files_at} (Err fault) old now (run (in_order (file_looked config) files all) w))
        (sym is)
        (ran_no_further (file_looked config files each) (λ files. in_order (file_looked config) files more) w fault old
        now ran)

    pub more_looked : {A : Type 0} (result : Result A (Fault Outcome)) (later : Reading) (new : Logged)
        → later ≡ reading
        → Ran (Ok (with_reading reading files each)) old now (run (file_looked config files each) w)
        → ((files : Files_at) → Ran (leaving result (files_left later files more)) now new
        (run (in_order (file_looked config) files more) w))
        → Ran (leaving result (files_left reading files all)) old new
        (run (in_order (file_looked config) files all) w)
    more_looked result later new same first rest =
        let behind =
        subst (λ later. Ran (leaving result (files_left later (with_reading reading files each) more)) now new
        (run (in_order (file_looked config) (with_reading reading files each) more) w))
        same (rest (with_reading reading files each)) in
        subst (λ all. Ran (leaving result (files_left reading files all)) old new
        (run (in_order (file_looked config) files all) w)) (sym is)
        (ran_then (file_looked config files each) (λ files. in_order (file_looked config) files more) w _ _ old now new
        first behind)

-- What is wanted is the first, and the rest as the code cuts it.
pub begins_with : (wanted : List Wanted) (each : Wanted) (dir : Path) → 1 ≤ length wanted
    → each ≡ get_or wanted 0 each → dir ≡ each.dir.now
    → map loaded_of wanted ≡ record { dir = dir; allowed = each.allowed } ∷ map loaded_of
    (take (length wanted - 1) (drop 1 wanted))
begins_with wanted each dir there is at =
    ap (map loaded_of) (drop_more wanted 0 each there ∙ ap (λ first. first ∷ drop 1 wanted) (sym is)
    ∙ ap (λ rest. each ∷ rest)
    (sym (take_all (length wanted - 1) (drop 1 wanted) (omega (arith, length-drop 1 wanted)))))
    ∙ ap (λ dir. record { dir = dir; allowed = each.allowed } ∷ map loaded_of
    (take (length wanted - 1) (drop 1 wanted))) (sym at)

-- ---- where the files that are left agree with what was read

module _ (reading : Reading) where
  read_over : (files : Files_at) (each : Loaded) (dir : Path) (allowed : Allowed) (is : Bool)
      → is_for each dir allowed ≡ is
      → files dir allowed ≡ files_read reading dir allowed
      → (if is then file_of (reading each.dir each.allowed) else files dir allowed) ≡ files_read reading dir allowed
  read_over files each dir allowed true is agree =
      let same = (is_for_Decides each dir allowed).0 is in
      ap (λ dir. file_of (reading dir each.allowed)) same.0 ∙ ap (λ allowed. file_of (reading dir allowed)) same.1
  read_over files each dir allowed false is agree = agree

  still_agree : (dir : Path) (allowed : Allowed) (files : Files_at) (wanted : List Loaded)
      → files dir allowed ≡ files_read reading dir allowed
      → files_left reading files wanted dir allowed ≡ files_read reading dir allowed
  still_agree dir allowed files [] agree = agree
  still_agree dir allowed files (each ∷ more) agree =
      still_agree dir allowed (with_reading reading files each) more
      (read_over files each dir allowed (is_for each dir allowed) refl agree)

  left_agree : (files : Files_at) (wanted : List Loaded)
      → AgreeAt (files_left reading files wanted) (files_read reading) wanted
  left_agree files [] = tt
  left_agree files (each ∷ more) =
      let own : is_for each each.dir each.allowed ≡ true =
      (is_for_Decides each each.dir each.allowed).1 (refl, refl) in (
        still_agree each.dir each.allowed (with_reading reading files each) more
            (ap (λ is. if is then file_of (reading each.dir each.allowed) else files each.dir each.allowed) own),
        left_agree (with_reading reading files each) more,
      )

  -- So what is in force is the same.
  pub force_left : (site : Site) (there : Walked)
      → force_at site there (files_read reading)
      ≡ force_at site there (files_left reading no_files (wanted_by site.config site.host there.walk.dirs))
  force_left site there =
      let wanted = wanted_by site.config site.host there.walk.dirs in
      sym (wanted_files_suffice site.config site.host there.walk (view_at site there) _ _ (left_agree no_files wanted))
