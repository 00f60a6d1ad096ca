-- The sections in force at the end of a walk, and what follows them.
use Rattle.std.specs.Prelude.{◌≡◌, ℕ, List, Bool, Option}
use Rattle.hc_addr.specs.declared.addr.Addr.{Addr}
use Rattle.hc_merge.specs.Candidates.{Candidate}
use Rattle.hc_merge.specs.Overriding.{Files_at}
use Rattle.hc_merge.specs.Settings.{merged}
use Rattle.hc_model.specs.declared.event.Decision.{Decision}
use Rattle.hc_model.specs.declared.walk.Kind.{Kind}
use Rattle.hc_model.specs.declared.walk.Walk.{Walk}
use Rattle.hc_plan.specs.Branches.{Branch}
use Rattle.hc_plan.specs.Plan.{Plan}
use Rattle.hc_plan.specs.Slots.{Slot}
use Rattle.hc_plan.specs.States.{AbsState}
use Rattle.hc_plan.specs.declared.storing.Tied.{Tied}
use Rattle.hc_abs_force.specs.Forcing.{marked}
use Rattle.hc_abs_force.specs.Merging.{merges}
use Rattle.hc_abs_force.specs.declared.forcing.Forced.{Forced}
use Rattle.hc_abs_left.specs.Grounds.{HasClients, ground_in, shown_in}
use Rattle.hc_abs_left.specs.Segments.{Are}
use Rattle.hc_abs_left.specs.declared.ground.Ground.{Ground}
use Rattle.hc_abs_left.specs.declared.segment.Segment.{Segment}
use Rattle.hc_abs_pass.specs.Ends.{EndsAt}
use Rattle.hc_abs_pass.specs.Passing as plans
use Rattle.hc_abs_pass.specs.Passing.{force_plan, scene_with, sections_from}
use Rattle.hc_abs_pass.specs.Walks.{IsListed, WalkEnd}
use Rattle.hc_abs_rw.specs.Templates.{slot_item}
use Rattle.hc_abs_name.specs.Behind.{AreBehind, IsBehind}

-- What is known of a state, and the sections that apply.
abbrev pub KeptFits : Option Addr → List Candidate → Forced → Branch (List Candidate) → Type 0
KeptFits client candidates forced branch =
    EndsAt client forced.tied branch.0 × (branch.1 ≡ marked forced.marks.items candidates)

module _ (ground : Ground) (decisions : List Decision) (aliased : Bool) where
  -- Behind the sections that apply.
  abbrev pub force_next : WalkEnd → ℕ → List Candidate → Plan plans.Segment
  force_next end levels kept = force_plan (ground_in levels merges ground) (record {
    force = merged ground.config.now ground.host kept;
    aliased = aliased;
    end = end;
  }) decisions

  abbrev pub IsBehindForce : Kind → List Candidate → Forced → List Segment → Type 0
  IsBehindForce kind candidates forced found = (end : WalkEnd) → end.kind ≡ kind
      → IsBehind ground (KeptFits ground.client candidates) (force_next end) forced found

  abbrev pub AreBehindForce : Kind → List Candidate → List Forced → List Segment → Type 0
  AreBehindForce kind candidates forced found = (end : WalkEnd) → end.kind ≡ kind
      → AreBehind ground (KeptFits ground.client candidates) (force_next end) forced found

  -- From the sections on, by the files that are read.
  abbrev pub sections_next : WalkEnd → Files_at → ℕ → Plan plans.Segment
  sections_next end files levels =
      let own = ground_in levels merges ground in
      sections_from own (scene_with own (slot_item Slot.Query)) (λ settings. force_plan own settings decisions) aliased
      end files

  abbrev pub AreFromSections : Walk → Files_at → Tied → List Segment → Type 0
  AreFromSections walk files before found = (levels : ℕ) (end : WalkEnd) (state : AbsState)
      → IsListed levels (shown_in ground) → end.kind ≡ walk.kind → end.dirs ≡ walk.dirs → HasClients ground state
      → EndsAt ground.client before state → Are ground (sections_next end files levels) state found
