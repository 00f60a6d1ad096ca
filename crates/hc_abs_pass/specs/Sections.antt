-- The sections that apply, one test after another in the order in which they are merged.
-- Apache manual, "Configuration Sections", "How the sections are merged"; core: DirectoryMatch, Files, Location, If.
use Rattle.std.specs.Prelude.{◌≡◌, List, [], ◌∷◌, ◌++◌, Bool, true, false, ◌&&◌}
use Rattle.std.specs.Prelude.{if◌then◌else◌, Option, None, Some, option_map}
use Rattle.std.specs.Prelude.{ℕ, slice_get, unwrap_or}
use Rattle.hc_dfa.specs.Texts.{TextSet}
use Rattle.hc_merge.specs.Candidates.{Candidate}
use Rattle.hc_merge.specs.Order.{ordered_sections}
use Rattle.hc_merge.specs.Overriding.{Files_at}
use Rattle.hc_merge.specs.Reaching.{Chain, chain_behind, holds_at, is_at, is_component_found, is_found, resolved}
use Rattle.hc_merge.specs.Settings.{effective, merged}
use Rattle.hc_model.specs.declared.config.Config.{Config}
use Rattle.hc_model.specs.declared.config.HostId.{HostId}
use Rattle.hc_model.specs.declared.request.View.{View}
use Rattle.hc_model.specs.declared.section.Body.{Body, out-Body}
use Rattle.hc_model.specs.declared.section.Effective.{Effective}
use Rattle.hc_model.specs.declared.section.Reach.{Reach}
use Rattle.hc_model.specs.declared.section.Reach.TheVariants.{Dir, DirSearch, Files, Location, LocationGlob}
use Rattle.hc_model.specs.declared.section.Reach.TheVariants.{LocationSearch, Otherwise, When}
use Rattle.hc_model.specs.declared.walk.Walk.{Walk}
use Rattle.hc_plan.specs.Plan.{Plan, done, put_down, take_up, test}
use Rattle.hc_plan.specs.Running.{State, ended, run}
use Rattle.hc_plan.specs.Slots.{Slot}
use Rattle.hc_plan.specs.Texts.{all_three}
use Rattle.hc_abs_rw.specs.Templates.{main, slot_item}
use Rattle.hc_abs_pass.specs.Views.{Scene, Sees, ways_of}

-- ---- one section

abbrev pub of_slot : {A : Type 0} → Slot → TextSet → (Bool → Plan A) → Plan A
of_slot slot set plan = take_up main (slot_item slot ∷ []) (test main set (λ is. put_down (plan is)))

abbrev pub reach_plan : {A : Type 0} → Scene → Reach → (Bool → Plan A) → Plan A
reach_plan scene (Dir pattern) plan = put_down (plan false)
reach_plan scene (DirSearch pattern) plan = of_slot Slot.Name (is_found pattern) plan
reach_plan scene (Files pattern) plan = of_slot Slot.Name (is_component_found pattern) plan
reach_plan scene (Location path) plan = of_slot Slot.Path (is_at path) plan
reach_plan scene (LocationGlob pattern) plan = of_slot Slot.Path (is_found pattern) plan
reach_plan scene (LocationSearch pattern) plan = of_slot Slot.Path (is_found pattern) plan
reach_plan scene (When expr) plan = ways_of scene expr false plan
reach_plan scene (Otherwise expr) plan = ways_of scene expr false plan

-- What no section around it allows, and what merges no setting, is not tested and does not apply.
abbrev pub tested_where : {A : Type 0} → Bool → Scene → Reach → (Bool → Plan A) → Plan A
tested_where true scene reach plan = reach_plan scene reach plan
tested_where false scene reach plan = put_down (plan false)

module _ (merges : Body → Bool) where
  -- A section of the first group applies where it stands.
  abbrev pub section_plan : {A : Type 0} → Scene → List Bool → Candidate → Option Reach → (Bool
      → Plan A) → Plan A
  section_plan scene marks candidate None plan = put_down (plan true)
  section_plan scene marks candidate (Some reach) plan =
      tested_where (merges candidate.body && holds_at marks candidate.parent) scene reach plan

  abbrev pub if_so : Bool → Candidate → List Candidate
  if_so is candidate = if is then candidate ∷ [] else []

  -- The sections that apply, behind those so far; `marks` says of each before whether it does, and `before` has the
  -- expressions of the chain right before: an Else is the expression that it is.
  unfoldable pub sections_plan : Scene → List Bool → Chain → List Candidate → List Candidate
      → Plan (List Candidate)
  sections_plan scene marks before kept [] = put_down (done kept)
  sections_plan scene marks before kept (candidate ∷ candidates) =
      section_plan scene marks candidate (option_map (resolved before) candidate.reach)
      (λ is. sections_plan scene (marks ++ is ∷ []) (chain_behind before candidate.reach)
      (kept ++ if_so is candidate) candidates)

  -- What merges nothing sets nothing.
  pub record Settles : Type 0 where
    pub options : (body : Body) → merges body ≡ false → (out-Body body).options ≡ []
    pub require : (body : Body) → merges body ≡ false → (out-Body body).require ≡ None
    pub rewrites : (body : Body) → merges body ≡ false → (out-Body body).rewrites ≡ false
    pub redirects : (body : Body) → merges body ≡ false → (out-Body body).redirects ≡ []

  -- A section of the first group stands in no other; around one that merges a setting is one that does.
  pub record StandsIn (before : List Bool) (candidate : Candidate) : Type 0 where
    pub at_once : candidate.reach ≡ None → candidate.parent ≡ None
    pub around : merges candidate.body ≡ true → (parent : ℕ) → candidate.parent ≡ Some parent
        → unwrap_or (slice_get before parent) false ≡ true

  abbrev pub AreNested : List Bool → List Candidate → Type 0
  AreNested before [] = Unit {0}
  AreNested before (candidate ∷ candidates) =
      StandsIn before candidate × AreNested (before ++ merges candidate.body ∷ []) candidates

-- The same but for what is told of the sections.
pub record SameForce (one other : Effective) : Type 0 where
  pub follow : one.follow ≡ other.follow
  pub require : one.require ≡ other.require
  pub engine : one.engine ≡ other.engine
  pub dir : one.dir ≡ other.dir
  pub base : one.base ≡ other.base
  pub rules : one.rules ≡ other.rules
  pub redirects : one.redirects ≡ other.redirects

abbrev pub bare : State → State
bare state = record state { texts = all_three [] }

-- What the sections that apply come to, one by one, is what is in force.
abbrev pub SectionsAgree : Type 0
SectionsAgree =
    (merges : Body → Bool) (scene : Scene) (config : Config) (host : HostId) (walk : Walk) (view : View)
    (files : Files_at) (state : State)
    → Settles merges → AreNested merges [] (ordered_sections config host files walk.dirs) → Sees scene view state
    → (kept : List Candidate)
    × (run (sections_plan merges scene [] [] [] (ordered_sections config host files walk.dirs)) state
    ≡ ended (bare state) kept)
    × SameForce (merged config host kept) (effective config host walk view files)
