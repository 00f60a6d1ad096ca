-- What follows where a pass goes on with a URL path or a text, in code.
use Rattle.std.specs.Prelude.{ℕ, List, None}
use Rattle.hc_abs_force.specs.Merging.{merges}
use Rattle.hc_model.specs.declared.event.Decision.{Decision}
use Rattle.hc_plan.specs.Branches.{Branch}
use Rattle.hc_plan.specs.Coded.{AreNext, IsNext}
use Rattle.hc_plan.specs.Plan.{Plan, done, put_down}
use Rattle.hc_abs_left.specs.Grounds.{HasClients, ground_in, shown_in}
use Rattle.hc_abs_left.specs.Segments.{SegmentFits}
use Rattle.hc_abs_left.specs.declared.ground.Ground.{Ground as LentGround}
use Rattle.hc_abs_left.specs.declared.segment.Segment.{Segment}
use Rattle.hc_abs_map.specs.Mapped.{MappedFits}
use Rattle.hc_abs_map.specs.declared.mapped.Mapped.{Mapped}
use Rattle.hc_abs_pass.specs.Ends.{next_pass}
use Rattle.hc_abs_pass.specs.Mapping.{Placing, over}
use Rattle.hc_abs_pass.specs.Passing.{Ground, ends_so, name_plan}
use Rattle.hc_abs_pass.specs.Passing.{Segment as End}
use Rattle.hc_abs_pass.specs.Walks.{IsListed}

-- No pass follows here; if one did, it would put the texts down.
abbrev pub placed_next : Ground → List Decision → Placing → Plan End
placed_next ground decisions (over next_pass) = put_down (done (ends_so None decisions next_pass))
placed_next ground decisions other = name_plan ground decisions other

-- Where the pass has ended or the file name is in hand, with the clients of the set.
abbrev pub MappedAt : (ground : LentGround) → Mapped → Branch Placing → Type 0
MappedAt ground mapped branch = MappedFits ground.client mapped branch × HasClients ground branch.0

-- What follows one.
abbrev pub IsBehind : LentGround → List Decision → Mapped → List Segment → Type 0
IsBehind ground decisions mapped found = (levels : ℕ) → IsListed levels (shown_in ground)
    → IsNext (MappedAt ground) (SegmentFits ground.client ground.tests.now)
    (placed_next (ground_in levels merges ground) decisions) mapped found

-- What follows each.
abbrev pub AreBehind : LentGround → List Decision → List Mapped → List Segment → Type 0
AreBehind ground decisions mapped found = (levels : ℕ) → IsListed levels (shown_in ground)
    → AreNext (MappedAt ground) (SegmentFits ground.client ground.tests.now)
    (placed_next (ground_in levels merges ground) decisions) mapped found
