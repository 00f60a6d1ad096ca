-- The branches from a cut, as code has them.
use Rattle.std.specs.Prelude.{◌≡◌, ℕ, List, [], ◌∷◌, ◌++◌, Bool, true, Option, None, Some}
use Rattle.hc_addr.specs.declared.addr.Addr.{Addr}
use Rattle.hc_merge.specs.Candidates.{Candidate}
use Rattle.hc_merge.specs.Overriding.{Files_at}
use Rattle.hc_model.specs.declared.walk.Kind.{Kind}
use Rattle.hc_model.specs.declared.walk.Walk.{Walk}
use Rattle.hc_plan.specs.Branches.{Branch}
use Rattle.hc_plan.specs.Coded.{AddsNext, AllFit, AreBranches, AreNext}
use Rattle.hc_plan.specs.Hands.{cell_of}
use Rattle.hc_plan.specs.Plan.{Plan}
use Rattle.hc_plan.specs.States.{AbsState, Given, some_of, this}
use Rattle.hc_plan.specs.Texts.{Three, all_three, any, of_bytes, place}
use Rattle.hc_plan.specs.Ways.{IsTested, on}
use Rattle.hc_plan.specs.declared.hand.Element.TheVariants as element
use Rattle.hc_plan.specs.declared.hand.Way.{Way}
use Rattle.hc_plan.specs.declared.storing.Tied.{Tied}
use Rattle.hc_abs_force.specs.Forcing.{marked}
use Rattle.hc_abs_force.specs.Merging.{merges}
use Rattle.hc_abs_force.specs.declared.forcing.Forced.{Forced}
use Rattle.hc_abs_left.specs.Grounds.{HasClients, ground_in, shown_in}
use Rattle.hc_abs_left.specs.Segments.{SegmentFits}
use Rattle.hc_abs_left.specs.declared.ground.Ground.{Ground}
use Rattle.hc_abs_left.specs.declared.segment.Segment.{Segment}
use Rattle.hc_abs_pass.specs.Passing as plans
use Rattle.hc_abs_pass.specs.Passing.{Settings}
use Rattle.hc_abs_pass.specs.Walks.{IsListed, WalkEnd, at_root, ends_in}
use Rattle.hc_abs_pass.specs.declared.list.SoFar.{SoFar}
use Rattle.hc_abs_pass.specs.declared.walk_ends.End.{End}
use Rattle.hc_abs_dir.specs.Sides.{tied_on}
use Rattle.hc_abs_rw.specs.Known.{client_given}
use Rattle.hc_abs_rw.specs.RuleBranches.{Rests}
use Rattle.hc_abs_rw.specs.Templates.{looked}
use Rattle.hc_steps.specs.Step.{Path}
use Rattle.hc_cells.specs.declared.slot.Slot.TheVariants as slot
use Rattle.hc_dfa.specs.Automata.{Automaton, accepts}
use Rattle.hc_dfa.specs.Texts.{IsText}
use Rattle.hc_abs_pass.specs.Again.{AreAtEnd, AreAtEnds, AreFromPlace, exactly, sections_at, settings_at}
use Rattle.hc_abs_cuts.specs.Cuts.{AreFrom}
use Rattle.hc_abs_pass.specs.Again.{where_of}
use Rattle.hc_abs_cuts.specs.Exact.{exact_of}
use Rattle.hc_invariant.specs.declared.cut.Cut.{Cut}
use Rattle.hc_abs_cuts.specs.declared.places.Place.{Place}

-- ---- branches

-- These are the branches from a cut for what is lent.
abbrev pub AreCut : Ground → Cut → Tied → List Segment → Type 0
AreCut ground cut before found = (levels : ℕ) (state : AbsState) → IsListed levels (shown_in ground)
    → Rests ground.client before state → HasClients ground state
    → (branches : List (Branch plans.Segment)) × AreFrom (ground_in levels merges ground) cut state branches
    × AllFit (SegmentFits ground.client ground.tests.now) found branches

-- Nothing is decided yet in the list that goes on.
abbrev pub begun_in : Bool → SoFar
begun_in substituted = record { decisions = []; substituted = substituted; replaced = true }

-- ---- where a directory's list is in force

pub record PlaceFits (client : Option Addr) (own : Place) (branch : Branch Settings) : Type 0 where
  pub rests : Rests client own.tied branch.0
  pub force : (branch.1).force ≡ own.force
  pub kind : ((branch.1).end).kind ≡ own.kind

-- The states in which the file name is in a set, whatever they are asked by: none where there are none.
abbrev pub IsNamed : Tied → Automaton → Option Tied → Type 0
IsNamed tied set given = (way : Option Way) × (given ≡ tied_on tied.ties way)
    × IsTested tied.cell tied.ties (element.Open slot.Name 0 ∷ []) 0 None (on true (accepts set)) way

module _ (ground : Ground) (dir : List ℕ) where
  abbrev pub own_ground : ℕ → plans.Ground
  own_ground levels = ground_in levels merges ground

  -- What is known of a state where its name is walked again: any query is held.
  abbrev pub held_query : Three (ℕ → Given)
  held_query = place looked (λ at. some_of (of_bytes any)) (all_three (λ at. this []))

  abbrev pub EndsSo : Tied → AbsState → Type 0
  EndsSo tied state = (state.cell ≡ cell_of tied.cell) × (state.ties ≡ tied.ties) × (state.given ≡ held_query)
      × (state.printed ≡ client_given ground.client)

  -- The branches of a plan at an end of the walk, where code knows what stands there.
  abbrev pub ArePlaced : (plans.Ground → WalkEnd → Plan Settings) → Kind → List Path → Tied → List Place → Type 0
  ArePlaced plan kind dirs before found = (levels : ℕ) (end : WalkEnd) (state : AbsState)
      → end.kind ≡ kind → end.dirs ≡ dirs → EndsSo before state
      → AreBranches (PlaceFits ground.client) (plan (own_ground levels) end) state found

  -- From the sections on.
  abbrev pub AreSectioned : Walk → Files_at → Tied → List Place → Type 0
  AreSectioned walk files = ArePlaced (λ own end. sections_at own dir end files) walk.kind walk.dirs

  -- Behind the sections that apply.
  abbrev pub forced_next : ℕ → WalkEnd → List Candidate → Plan Settings
  forced_next levels end kept = where_of (own_ground levels) dir (settings_at (own_ground levels) end kept)

  abbrev pub ForcedHere : List Candidate → Forced → Branch (List Candidate) → Type 0
  ForcedHere candidates one branch = EndsSo one.tied branch.0 × (branch.1 ≡ marked one.marks.items candidates)

  abbrev pub AreInForce : Kind → List Candidate → List Forced → List Place → Type 0
  AreInForce kind candidates forced found = (levels : ℕ) (end : WalkEnd) → end.kind ≡ kind
      → AreNext (ForcedHere candidates) (PlaceFits ground.client)
      (forced_next levels end) forced found

  abbrev pub AddsInForce : Kind → List Candidate → Forced → List Place → List Place → Type 0
  AddsInForce kind candidates one before after = (levels : ℕ) (end : WalkEnd) → end.kind ≡ kind
      → AddsNext (ForcedHere candidates) (PlaceFits ground.client)
      (forced_next levels end) one before after

  -- ---- ends

  -- At an end, for the plan's end that has the same names.
  abbrev pub IsAtEnd : Tied → End → List Place → Type 0
  IsAtEnd before code found = (levels : ℕ) (end : WalkEnd) (state : AbsState)
      → ((x : List ℕ) → IsText x → exactly end x ≡ exact_of code x) → end.kind ≡ code.kind → end.dirs ≡ code.dirs
      → Rests ground.client before state
      → (branches : List (Branch Settings)) × AreAtEnd (own_ground levels) dir state end branches
      × AllFit (PlaceFits ground.client) found branches

  -- At each, one after the other.
  abbrev pub AreAtEndsIn : Tied → List End → List Place → Type 0
  AreAtEndsIn before [] found = found ≡ []
  AreAtEndsIn before (end ∷ ends) found = (one : List Place) × (other : List Place) × (found ≡ one ++ other)
      × IsAtEnd before end one × AreAtEndsIn before ends other

  abbrev pub ArePlaces : Tied → List Place → Type 0
  ArePlaces before found = (levels : ℕ) (state : AbsState) → IsListed levels (shown_in ground)
      → Rests ground.client before state
      → (branches : List (Branch Settings))
      × AreAtEnds (own_ground levels) dir state (ends_in levels (shown_in ground) at_root) branches
      × AllFit (PlaceFits ground.client) found branches

  -- ---- from there on

  abbrev pub IsFromPlaceIn : Place → List Segment → Type 0
  IsFromPlaceIn own found = (levels : ℕ) (branch : Branch Settings) → PlaceFits ground.client own branch
      → (branches : List (Branch plans.Segment)) × AreFromPlace (own_ground levels) dir branch branches
      × AllFit (SegmentFits ground.client ground.tests.now) found branches

  abbrev pub AreFromPlacesIn : List Place → List Segment → Type 0
  AreFromPlacesIn [] found = found ≡ []
  AreFromPlacesIn (own ∷ places) found = (one : List Segment) × (other : List Segment) × (found ≡ one ++ other)
      × IsFromPlaceIn own one × AreFromPlacesIn places other
