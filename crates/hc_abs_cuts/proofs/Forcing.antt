-- The sections in force where a directory's list goes on.
use Rattle.hc_abs_cuts.proofs.Common.{◌≡◌, ◌∙◌, ℕ, List, [], ◌∷◌, ◌++◌, Bool, true, false, Option, refl, sym, ap, subst}
use Rattle.hc_abs_cuts.proofs.Common.{append-nil, Branch, AllFit, AreBranches, Plan, AbsState, Tied, ground_in, Ground}
use Rattle.hc_abs_cuts.proofs.Common.{Settings, WalkEnd, Place}
use Rattle.std.specs.Borrow.{Bor}
use Rattle.hc_merge.specs.Candidates.{Candidate}
use Rattle.hc_merge.specs.Order.{ordered_sections}
use Rattle.hc_merge.specs.Overriding.{Files_at}
use Rattle.hc_merge.specs.Settings.{merged}
use Rattle.hc_model.specs.declared.request.Caller.{Caller}
use Rattle.hc_model.specs.declared.section.Effective.{Effective}
use Rattle.hc_model.specs.declared.walk.Kind.{Kind}
use Rattle.hc_model.specs.declared.walk.Walk.{Walk}
use Rattle.hc_plan.proofs.Coded.{end_fits, joined_fits, let_go_fits, put_down_fits}
unfoldable use Rattle.hc_plan.specs.Branches.{Branches}
use Rattle.hc_plan.specs.Branches.{with_given, without_texts}
use Rattle.hc_plan.specs.Hands.{cell_of}
use Rattle.hc_plan.specs.Plan.{and_then, done, held, leave_out, let_go, put_down}
use Rattle.hc_plan.specs.States.{this}
use Rattle.hc_plan.specs.Texts.{place}
use Rattle.hc_abs_force.specs.Forcing.{AreForced, ForcedFits, marked}
use Rattle.hc_abs_force.specs.Merging.{merges}
use Rattle.hc_abs_force.specs.declared.forcing.Forced.{Forced}
use Rattle.hc_abs_left.specs.Grounds.{Stands}
use Rattle.hc_abs_pass.specs.Passing.{scene_with}
use Rattle.hc_abs_pass.specs.Sections.{sections_plan}
use Rattle.hc_abs_pass.specs.Views.{Scene as PlanScene}
use Rattle.hc_abs_rw.specs.Frames.{common}
use Rattle.hc_abs_rw.specs.Templates.{looked}
use Rattle.hc_abs_view.specs.Viewing.{scene_of}
use Rattle.hc_abs_view.specs.declared.scene.Query.TheVariants as query
use Rattle.hc_abs_view.specs.declared.scene.Scene.{Scene}
use Rattle.hc_abs_cuts.specs.Coded.{AddsInForce, AreInForce, AreSectioned, EndsSo, ForcedHere, PlaceFits, forced_next}
use Rattle.hc_abs_cuts.specs.Coded.{held_query}
use Rattle.hc_abs_pass.specs.Again.{is_list_of, settings_at, where_of}

abbrev pub scene_in : (ground : Ground) → Bor Caller → Scene
scene_in ground caller = record { caller = caller; query = query.Any; client = ground.client; room = ground.room }

module _ (ground : Ground) (dir : List ℕ) where
  -- ---- the sections that apply

  module _ (caller : Bor Caller) (stands : Stands ground) (own : caller.now ≡ ground.tests.now)
      (candidates : List Candidate) (forced : List Forced) (tied : Tied) where
    abbrev plan : Plan (List Candidate)
    plan = sections_plan merges (scene_of (scene_in ground caller)) [] [] [] candidates

    each_here : (forced : List Forced) (branches : List (Branch (List Candidate)))
        → AllFit (ForcedFits (scene_in ground caller) (held_query ground dir) candidates) forced branches
        → AllFit (ForcedHere ground dir candidates) forced branches
    each_here [] branches none = none
    each_here (one ∷ forced) branches fit = (
      fit.0,
      fit.1,
      fit.2,
      (
        (fit.3.seen.cell, fit.3.seen.ties, fit.3.seen.holds, fit.3.seen.printed),
        fit.3.kept,
      ),
      each_here forced fit.1 fit.4,
    )

    seen : (state : AbsState) → AreForced (scene_in ground caller) candidates tied forced → EndsSo ground dir tied state
        → AreBranches (ForcedHere ground dir candidates) plan state forced
    seen state are ends =
        let found = are (held_query ground dir) state (record {
          cell = ends.0;
          ties = ends.1;
          holds = ends.2;
          query = refl;
          printed = ends.3;
        }) in
        (found.0, found.1, each_here forced found.0 found.2)

    abbrev scene_by : Caller → PlanScene
    scene_by caller = record { caller = caller; query = held looked 0 }

    same_scene : (levels : ℕ)
        → scene_of (scene_in ground caller) ≡ scene_with (ground_in levels merges ground) (held looked 0)
    same_scene levels = ap scene_by (ap common own ∙ stands.caller)

    pub sections_fit : (walk : Walk) (files : Files_at) (found : List Place)
        → candidates ≡ ordered_sections ground.config.now ground.host files walk.dirs
        → AreForced (scene_in ground caller) candidates tied forced
        → AreInForce ground dir walk.kind candidates forced found → AreSectioned ground dir walk files tied found
    sections_fit walk files found are_all are behind levels end state kind dirs ends =
        let Fit = PlaceFits ground.client in
        let next = forced_next ground dir levels end in
        subst (λ (candidates : List Candidate). AreBranches Fit
        (and_then (sections_plan merges (scene_with (ground_in levels merges ground) (held looked 0)) [] [] [] candidates)
        next) state found)
        (are_all ∙ ap (ordered_sections ground.config.now ground.host files) (sym dirs))
        (subst (λ (scene : PlanScene). AreBranches Fit (and_then (sections_plan merges scene [] [] [] candidates) next)
        state found) (same_scene levels)
        (joined_fits (ForcedHere ground dir candidates) Fit next plan state forced found (seen state are ends)
        (behind levels end kind)))

  -- ---- what is in force with them

  module _ (kind : Kind) (candidates : List Candidate) (one : Forced) (force : Effective)
      (is : force ≡ merged ground.config.now ground.host (marked one.marks.items candidates)) where
    same_list : (branch : Branch (List Candidate)) → ForcedHere ground dir candidates one branch
        → is_list_of dir force.dir ≡ is_list_of dir (merged ground.config.now ground.host branch.1).dir
    same_list branch fits =
        ap (λ (force : Effective). is_list_of dir force.dir)
        (is ∙ ap (merged ground.config.now ground.host) (sym fits.1))

    -- Whether it is the list is known.
    by_answer : (answer : Bool) (levels : ℕ) (end : WalkEnd) (branch : Branch (List Candidate)) (found : List Place)
        → is_list_of dir force.dir ≡ answer → ForcedHere ground dir candidates one branch
        → AreBranches (PlaceFits ground.client) (elim answer [
          | true ↦ put_down (let_go looked (done (settings_at (ground_in levels merges ground) end branch.1)))
          | false ↦ leave_out
        ]) branch.0 found
        → AreBranches (PlaceFits ground.client) (forced_next ground dir levels end branch.1) branch.0 found
    by_answer answer levels end branch found known fits are =
        subst (λ answer. AreBranches (PlaceFits ground.client) (elim answer [
          | true ↦ put_down (let_go looked (done (settings_at (ground_in levels merges ground) end branch.1)))
          | false ↦ leave_out
        ]) branch.0 found) (sym known ∙ same_list branch fits) are

    pub others_added : (found : List Place) → is_list_of dir force.dir ≡ false
        → AddsInForce ground dir kind candidates one found found
    unfolding Branches
    others_added found other levels end same = (
      [],
      sym (append-nil found),
      (λ branch fits. by_answer false levels end branch [] other fits ([], refl, refl)),
    )

    pub own_added : (before after : List Place) (own : Place) → is_list_of dir force.dir ≡ true → own.tied ≡ one.tied
        → own.force ≡ force → own.kind ≡ kind → after ≡ before ++ own ∷ []
        → AddsInForce ground dir kind candidates one before after
    own_added before after own there tied own_force own_kind added levels end same = (
      own ∷ [],
      added,
      (λ branch fits.
          let Fit = PlaceFits ground.client in
          let made = settings_at (ground_in levels merges ground) end branch.1 in
          let put = without_texts branch.0 in
          let left = with_given put looked (λ at. this []) in
          by_answer true levels end branch (own ∷ []) there fits
          (put_down_fits Fit branch.0 (let_go looked (done made)) (own ∷ [])
          (let_go_fits Fit put looked (done made) (own ∷ [])
          (end_fits Fit left made own (record {
            rests = record {
              cell = fits.0.0 ∙ ap (λ (tied : Tied). cell_of tied.cell) (sym tied);
              ties = fits.0.1 ∙ ap (λ (tied : Tied). tied.ties) (sym tied);
              given = ap (λ given. place looked (λ at. this []) given) fits.0.2;
              texts = refl;
              printed = fits.0.3;
            };
            force = ap (merged ground.config.now ground.host) fits.1 ∙ sym is ∙ sym own_force;
            kind = same ∙ sym own_kind;
          }))))),
    )
