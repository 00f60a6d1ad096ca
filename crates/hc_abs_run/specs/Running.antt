-- The branches of a segment of a pass, as code has them.
use Rattle.std.specs.Prelude.{ℕ, List}
use Rattle.hc_plan.specs.Plan.{Plan}
use Rattle.hc_plan.specs.States.{AbsState}
use Rattle.hc_plan.specs.declared.storing.Tied.{Tied}
use Rattle.hc_abs_force.specs.Merging.{merges}
use Rattle.hc_abs_left.specs.Grounds.{HasClients, ground_in, shown_in}
use Rattle.hc_abs_left.specs.Segments.{Are}
use Rattle.hc_abs_left.specs.declared.ground.Ground.{Ground as LentGround}
use Rattle.hc_abs_left.specs.declared.segment.Segment.{Segment}
use Rattle.hc_abs_pass.specs.Listing.{so_far_of}
use Rattle.hc_abs_pass.specs.Passing.{Ground, pass_plan, server_round_plan}
use Rattle.hc_abs_pass.specs.Passing.{Segment as End}
use Rattle.hc_abs_pass.specs.Walks.{IsListed}
use Rattle.hc_abs_pass.specs.declared.list.SoFar.{SoFar}
use Rattle.hc_abs_rw.specs.RuleBranches.{Rests}

-- These are the branches of a plan, whatever number of levels has all of the world.
abbrev pub AreOf : (ground : LentGround) → (Ground → Plan End) → Tied → List Segment → Type 0
AreOf ground plan before found = (levels : ℕ) (state : AbsState) → IsListed levels (shown_in ground)
    → HasClients ground state → Rests ground.client before state
    → Are ground (plan (ground_in levels merges ground)) state found

-- Those from the start of a pass.
abbrev pub ArePass : LentGround → Tied → List Segment → Type 0
ArePass ground = AreOf ground pass_plan

-- Those from a further round of the server's list.
abbrev pub AreServerRound : LentGround → SoFar → Tied → List Segment → Type 0
AreServerRound ground so_far = AreOf ground (λ ground. server_round_plan ground (so_far_of so_far))
