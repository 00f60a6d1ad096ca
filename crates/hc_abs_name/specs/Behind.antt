-- What follows the branches of a part of a pass.
use Rattle.std.specs.Prelude.{ℕ, List}
use Rattle.hc_plan.specs.Branches.{Branch}
use Rattle.hc_plan.specs.Coded.{AreNext, IsNext}
use Rattle.hc_plan.specs.Plan.{Plan}
use Rattle.hc_abs_left.specs.Grounds.{HasClients, shown_in}
use Rattle.hc_abs_left.specs.Segments.{SegmentFits}
use Rattle.hc_abs_left.specs.declared.ground.Ground.{Ground}
use Rattle.hc_abs_left.specs.declared.segment.Segment.{Segment}
use Rattle.hc_abs_pass.specs.Passing as plans
use Rattle.hc_abs_pass.specs.Walks.{IsListed}

-- One fits, and the clients are those of the set.
abbrev pub WithClients : {A X : Type 0} → (ground : Ground) → (X → Branch A → Type 0) → X → Branch A → Type 0
WithClients ground First one branch = First one branch × HasClients ground branch.0

module _ {A X : Type 0} (ground : Ground) (First : X → Branch A → Type 0) (next : ℕ → A → Plan plans.Segment) where
  -- What follows one, whatever number of levels has all of the world.
  abbrev pub IsBehind : X → List Segment → Type 0
  IsBehind one found = (levels : ℕ) → IsListed levels (shown_in ground)
      → IsNext (WithClients ground First) (SegmentFits ground.client ground.tests.now) (next levels) one found

  -- What follows each of them, one after the other.
  abbrev pub AreBehind : List X → List Segment → Type 0
  AreBehind all found = (levels : ℕ) → IsListed levels (shown_in ground)
      → AreNext (WithClients ground First) (SegmentFits ground.client ground.tests.now) (next levels) all found
