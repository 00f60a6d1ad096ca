-- The branches of a pass from its file name on, as code has them.
use Rattle.std.specs.Prelude.{ℕ, List, Bool}
use Rattle.hc_model.specs.declared.event.Decision.{Decision}
use Rattle.hc_plan.specs.States.{AbsState}
use Rattle.hc_abs_force.specs.Merging.{merges}
use Rattle.hc_abs_left.specs.Grounds.{HasClients, ground_in, shown_in}
use Rattle.hc_abs_left.specs.Segments.{Are}
use Rattle.hc_abs_left.specs.declared.ground.Ground.{Ground}
use Rattle.hc_abs_left.specs.declared.segment.Segment.{Segment}
use Rattle.hc_abs_pass.specs.Mapping.{named as in_hand}
use Rattle.hc_abs_pass.specs.Passing.{name_plan}
use Rattle.hc_abs_pass.specs.Walking.{HasName}
use Rattle.hc_abs_pass.specs.Walks.{IsListed}
use Rattle.hc_abs_pass.specs.declared.walk.Named.{Named}

-- These are the branches where a file name is in hand, whatever number of levels has all of the world.
abbrev pub AreArrived : (ground : Ground) → List Decision → Named → Bool → List Segment → Type 0
AreArrived ground decisions named aliased found = (levels : ℕ) (state : AbsState) → IsListed levels (shown_in ground)
    → HasClients ground state → HasName named ground.client state
    → Are ground (name_plan (ground_in levels merges ground) decisions (in_hand aliased)) state found
