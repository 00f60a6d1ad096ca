-- The steps from a file name up to the end of its walk.
use Rattle.std.specs.Prelude.{ℕ, List, Bool, None}
use Rattle.hc_model.specs.declared.event.Decision.{Decision}
use Rattle.hc_plan.specs.Plan.{Plan, and_then, done, put_down}
use Rattle.hc_plan.specs.States.{AbsState}
use Rattle.hc_plan.specs.declared.storing.Tied.{Tied}
use Rattle.hc_abs_force.specs.Merging.{merges}
use Rattle.hc_abs_left.specs.Grounds.{HasClients, ground_in, shown_in}
use Rattle.hc_abs_left.specs.Segments.{Are}
use Rattle.hc_abs_left.specs.declared.ground.Ground.{Ground}
use Rattle.hc_abs_left.specs.declared.segment.Finish.TheVariants as finish
use Rattle.hc_abs_left.specs.declared.segment.Segment.{Segment}
use Rattle.hc_abs_map.specs.Mapped.{MappedFits}
use Rattle.hc_abs_map.specs.declared.mapped.Mapped.{Mapped}
use Rattle.hc_abs_pass.specs.Ends.{Left, next_pass}
use Rattle.hc_abs_pass.specs.Mapping.{Placing, named, over}
use Rattle.hc_abs_pass.specs.Passing as plans
use Rattle.hc_abs_pass.specs.Passing.{ends_so, there_plan}
use Rattle.hc_abs_pass.specs.Walking.{HasName, WalkedFits}
use Rattle.hc_abs_pass.specs.Walks.{IsListed, WalkEnd, at_root, ends_in, walk_plan}
use Rattle.hc_abs_pass.specs.declared.ends.Left.{Left as LeftIn}
use Rattle.hc_abs_pass.specs.declared.walk.Named.{Named}
use Rattle.hc_abs_pass.specs.declared.walk.Walked.{Walked}
use Rattle.hc_abs_name.specs.Behind.{AreBehind, IsBehind}

-- The pass ends before anything is in force.
abbrev pub stopped_at : Tied → List Decision → LeftIn → Segment
stopped_at tied decisions left =
    record { tied = tied; decisions = decisions; require = None; finish = finish.Stopped left }

-- No name that is made ready leads to another pass; if one did, it would put the text down.
abbrev pub ended_plan : List Decision → Left → Plan plans.Segment
ended_plan decisions next_pass = put_down (done (ends_so None decisions next_pass))
ended_plan decisions other = done (ends_so None decisions other)

module _ (ground : Ground) (decisions : List Decision) where
  -- Behind the end of a walk.
  abbrev pub there_next : Bool → ℕ → WalkEnd → Plan plans.Segment
  there_next aliased levels = there_plan (ground_in levels merges ground) aliased decisions

  -- From the walk on.
  abbrev pub walked_plan : Bool → ℕ → Plan plans.Segment
  walked_plan aliased levels =
      and_then (walk_plan (ends_in levels (shown_in ground) at_root)) (there_next aliased levels)

  -- Behind a name that is made ready.
  abbrev pub ready_next : ℕ → Placing → Plan plans.Segment
  ready_next levels (over left) = ended_plan decisions left
  ready_next levels (named aliased) = walked_plan aliased levels

  abbrev pub IsBehindReady : Mapped → List Segment → Type 0
  IsBehindReady = IsBehind ground (MappedFits ground.client) ready_next

  abbrev pub AreBehindReady : List Mapped → List Segment → Type 0
  AreBehindReady = AreBehind ground (MappedFits ground.client) ready_next

  -- The branches from the walk of a name on.
  abbrev pub AreFromWalk : Bool → Named → List Segment → Type 0
  AreFromWalk aliased own found = (levels : ℕ) (state : AbsState) → IsListed levels (shown_in ground)
      → HasClients ground state → HasName own ground.client state → Are ground (walked_plan aliased levels) state found

  abbrev pub IsBehindWalk : Bool → Walked → List Segment → Type 0
  IsBehindWalk aliased = IsBehind ground (WalkedFits ground.client) (there_next aliased)

  abbrev pub AreBehindWalk : Bool → List Walked → List Segment → Type 0
  AreBehindWalk aliased = AreBehind ground (WalkedFits ground.client) (there_next aliased)
