-- Where a directory's list goes on: the plan that walks its file name again comes to what is in force there.
use Rattle.hc_abs_again.proofs.Common.{◌≡◌, ◌∙◌, ℕ, List, [], Bool, true, false, Some, refl}
use Rattle.hc_abs_again.proofs.Common.{sym, ap, subst, State, ended, holding, plan_then}
use Rattle.hc_abs_again.proofs.Common.{plan_run, goes_on, run, Shown, Site, Here}
use Rattle.hc_merge.specs.Candidates.{Candidate}
use Rattle.hc_merge.specs.Order.{ordered_sections}
use Rattle.hc_merge.specs.Overriding.{wanted_by}
use Rattle.hc_model.specs.declared.section.Body.{Body}
use Rattle.hc_plan.proofs.Sequence.{runs_in_turn}
use Rattle.hc_plan.proofs.Slots.{own_bytes}
use Rattle.hc_plan.specs.Plan.{done, held, leave_out, let_go, put_down}
use Rattle.hc_serve.specs.DirectoryRules.{is_aliased}
use Rattle.hc_serve.specs.Passing.{files_looked, view_at}
use Rattle.hc_serve.specs.declared.stage.Walked.{Walked}
use Rattle.hc_abs_rw.specs.Templates.{looked}
use Rattle.hc_abs_pass.specs.Again.{again_at, files_left_at, is_list_of, settings_at, where_of}
use Rattle.hc_abs_pass.specs.Passing.{Ground, Settings, files_at, scene_with}
use Rattle.hc_abs_pass.specs.Sections.{SameForce, bare, sections_plan}
use Rattle.hc_abs_pass.specs.Views.{Scene, Sees}
use Rattle.hc_abs_pass.specs.Walks.{WalkEnd}
use Rattle.hc_abs_pass.proofs.Sections.{sections_agree}
use Rattle.hc_abs_segments.specs.Agreeing.{IsGround, SettlesHere, ground_of}
use Rattle.hc_abs_again.proofs.Leading.{IsHere}

-- No text is in hand, and nothing is held under the key.
abbrev pub let_gone : State → State
let_gone s = holding (bare s) looked (λ at. [])

module _ (site : Site) (shown : Shown) (levels : ℕ) (merges : Body → Bool) (names : List ℕ → Bool)
    (is_ground : IsGround site shown levels merges) (here : Here) (dir : List ℕ) (is_dir : here.force.dir ≡ Some dir)
    (Of : List ℕ → Type 0) (came : IsHere site shown Of here) (end : WalkEnd) (kind : end.kind ≡ here.walk.kind)
    (dirs : end.dirs ≡ here.walk.dirs) where
  abbrev ground : Ground
  ground = ground_of site false shown levels merges names

  abbrev there : Walked
  there = record { named = here.named; walk = here.walk }

  abbrev scene : Scene
  scene = scene_with ground (held looked 0)

  pub record IsPlace (s : State) : Type 0 where
    pub settings : Settings
    pub runs : plan_run (again_at ground dir end) s ≡ ended (let_gone s) settings
    pub settles : SettlesHere (record settings { aliased = is_aliased here.named }) here

  files_are : files_at ground end ≡ goes_on came.files
  files_are =
      ap (λ dirs. (run (files_looked site.config (wanted_by site.config site.host dirs)) shown).way) dirs
      ∙ came.looked

  where_runs : (settings : Settings) → settings.force.dir ≡ Some dir → (s : State)
      → plan_run (where_of ground dir settings) s ≡ ended (let_gone s) settings
  unfolding plan_run
  where_runs settings own s =
      ap (λ is. plan_run (elim is [ true ↦ put_down (let_go looked (done settings)) | false ↦ leave_out ]) s)
      (ap (is_list_of dir) own ∙ own_bytes dir)

  pub place : (s : State) → Sees scene (view_at site there) (bare s) → IsPlace s
  unfolding plan_run
  place s sees =
      let found = sections_agree merges scene site.config site.host here.walk (view_at site there) came.files (bare s)
      is_ground.settles (is_ground.nested came.files here.walk.dirs) sees in
      let settings = settings_at ground end found.0 in
      let force : SameForce settings.force here.force =
      subst (SameForce settings.force) (sym came.force) found.2 in
      let candidates = λ (dirs : List (List ℕ)). sections_plan merges scene [] [] []
      (ordered_sections site.config site.host came.files dirs) in
      let next = λ (kept : List Candidate). where_of ground dir (settings_at ground end kept) in record {
        settings = settings;
        runs = ap (λ way. plan_run (files_left_at ground dir end way) (bare s)) files_are
            ∙ runs_in_turn next (candidates end.dirs) (bare s)
            ∙ ap (λ first. plan_then first (λ kept s. plan_run (next kept) s))
            (ap (λ dirs. plan_run (candidates dirs) (bare s)) dirs ∙ found.1)
            ∙ where_runs settings (force.dir ∙ is_dir) (bare s);
        settles = record { force = force; aliased = refl; kind = kind };
      }
