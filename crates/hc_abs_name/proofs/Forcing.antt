-- The sections in force at the end of a walk.
use Rattle.hc_abs_name.proofs.Common.{◌≡◌, ◌∙◌, ℕ, List, [], Bool, sym, ap, subst}
use Rattle.std.specs.Borrow.{Bor}
use Rattle.hc_merge.specs.Candidates.{Candidate}
use Rattle.hc_merge.specs.Order.{ordered_sections}
use Rattle.hc_merge.specs.Overriding.{Files_at}
use Rattle.hc_merge.specs.Settings.{merged}
use Rattle.hc_model.specs.declared.event.Decision.{Decision}
use Rattle.hc_model.specs.declared.request.Caller.{Caller}
use Rattle.hc_model.specs.declared.walk.Kind.{Kind}
use Rattle.hc_model.specs.declared.walk.Walk.{Walk}
use Rattle.hc_plan.proofs.Coded.{joined_fits}
use Rattle.hc_plan.specs.Coded.{AreBranches}
use Rattle.hc_plan.specs.Plan.{and_then}
use Rattle.hc_plan.specs.Slots.{Slot}
use Rattle.hc_plan.specs.States.{AbsState, Given, this}
use Rattle.hc_plan.specs.Texts.{Three, all_three}
use Rattle.hc_plan.specs.declared.storing.Tied.{Tied}
use Rattle.hc_abs_dir.specs.Forced.{AreForced as AreForcedThere}
use Rattle.hc_abs_force.specs.Forcing.{AreForced, ForcedFits, marked}
use Rattle.hc_abs_force.specs.Merging.{merges}
use Rattle.hc_abs_force.specs.declared.forcing.Forced.{Forced}
use Rattle.hc_abs_left.specs.Grounds.{HasClients, Stands, ground_in}
use Rattle.hc_abs_left.specs.Segments.{SegmentFits}
use Rattle.hc_abs_left.specs.declared.ground.Ground.{Ground}
use Rattle.hc_abs_left.specs.declared.ground.Settings.{Settings}
use Rattle.hc_abs_left.specs.declared.segment.Segment.{Segment}
use Rattle.hc_abs_pass.specs.Ends.{EndsAt}
use Rattle.hc_abs_pass.specs.Passing.{scene_with}
use Rattle.hc_abs_pass.specs.Sections.{sections_plan}
use Rattle.hc_abs_pass.specs.Views.{Scene as PlanScene}
use Rattle.hc_abs_rw.specs.Frames.{common}
use Rattle.hc_abs_rw.specs.Templates.{slot_item}
use Rattle.hc_abs_view.specs.Viewing.{scene_of}
use Rattle.hc_abs_view.specs.declared.scene.Query.TheVariants as query
use Rattle.hc_abs_view.specs.declared.scene.Scene.{Scene}
use Rattle.hc_abs_name.proofs.Clients.{with_clients}
use Rattle.hc_abs_name.specs.Behind.{WithClients}
use Rattle.hc_abs_name.specs.Forced.{AreBehindForce, AreFromSections, IsBehindForce, KeptFits, force_next}

-- Nothing is held.
abbrev nothing : Three (ℕ → Given)
nothing = all_three (λ at. this [])

-- The sections, asked of these requests.
abbrev pub scene_in : (ground : Ground) → Bor Caller → Scene
scene_in ground caller = record { caller = caller; query = query.Own; client = ground.client; room = ground.room }

module _ (ground : Ground) (decisions : List Decision) (aliased : Bool) where
  -- ---- the sections that apply

  module _ (caller : Bor Caller) (stands : Stands ground) (own : caller.now ≡ ground.tests.now) (candidates : List Candidate)
      (forced : List Forced) (tied : Tied) where
    seen : (state : AbsState) → AreForced (scene_in ground caller) candidates tied forced → EndsAt ground.client tied state
        → HasClients ground state
        → AreBranches (WithClients ground (KeptFits ground.client candidates))
        (sections_plan merges (scene_of (scene_in ground caller)) [] [] [] candidates) state forced
    seen state are ends clients =
        with_clients (ForcedFits (scene_in ground caller) nothing candidates)
        (WithClients ground (KeptFits ground.client candidates))
        (sections_plan merges (scene_of (scene_in ground caller)) [] [] [] candidates) state forced
        (are nothing state (record {
          cell = ends.cell;
          ties = ends.ties;
          holds = ends.given;
          query = tt;
          printed = ends.printed;
        }))
        (λ one branch fits same. (
          (
            record {
              cell = fits.seen.cell;
              ties = fits.seen.ties;
              given = fits.seen.holds;
              printed = fits.seen.printed;
            },
            fits.kept,
          ),
          same ∙ clients,
        ))

    abbrev scene_by : Caller → PlanScene
    scene_by caller = record { caller = caller; query = slot_item Slot.Query }

    same_scene : (levels : ℕ)
        → scene_of (scene_in ground caller) ≡ scene_with (ground_in levels merges ground) (slot_item Slot.Query)
    same_scene levels =
        ap scene_by (ap common own ∙ stands.caller)

    pub sections_fit : (walk : Walk) (files : Files_at) (found : List Segment)
        → candidates ≡ ordered_sections ground.config.now ground.host files walk.dirs
        → AreForced (scene_in ground caller) candidates tied forced
        → AreBehindForce ground decisions aliased walk.kind candidates forced found
        → AreFromSections ground decisions aliased walk files tied found
    sections_fit walk files found are_all are behind levels end state listed kind dirs clients ends =
        let Fit = SegmentFits ground.client ground.tests.now in
        let next = force_next ground decisions aliased end levels in
        let plan = sections_plan merges (scene_of (scene_in ground caller)) [] [] [] candidates in
        subst (λ (candidates : List Candidate). AreBranches Fit
        (and_then
        (sections_plan merges (scene_with (ground_in levels merges ground) (slot_item Slot.Query)) [] [] [] candidates)
        next) state found)
        (are_all ∙ ap (ordered_sections ground.config.now ground.host files) (sym dirs))
        (subst (λ (scene : PlanScene). AreBranches Fit (and_then (sections_plan merges scene [] [] [] candidates) next)
        state found) (same_scene levels)
        (joined_fits (WithClients ground (KeptFits ground.client candidates)) Fit next plan state forced found
        (seen state are ends clients) (behind end kind levels listed)))

  -- ---- what follows them

  pub settings_behind : (kind : Kind) (candidates : List Candidate) (one : Forced) (settings : Settings)
      (found : List Segment)
      → settings.force ≡ merged ground.config.now ground.host (marked one.marks.items candidates)
      → settings.aliased ≡ aliased → settings.kind ≡ kind
      → AreForcedThere ground settings decisions one.tied found
      → IsBehindForce ground decisions aliased kind candidates one found
  settings_behind kind candidates one settings found force from stands are end same levels listed branch fits =
      are levels merges (record {
        force = merged ground.config.now ground.host branch.1;
        aliased = aliased;
        end = end;
      }) branch.0 (record {
        force = ap (merged ground.config.now ground.host) fits.0.1 ∙ sym force;
        aliased = sym from;
        kind = same ∙ sym stands;
      }) fits.1 fits.0.0
