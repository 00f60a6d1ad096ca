-- What the rules of the server lead to, in code.
use Rattle.std.specs.Prelude.{ℕ, List}
use Rattle.hc_abs_force.specs.Merging.{merges}
use Rattle.hc_model.specs.declared.request.Caller.{Caller}
use Rattle.hc_plan.specs.Branches.{Branch}
use Rattle.hc_plan.specs.Coded.{AreNext}
use Rattle.hc_abs_left.specs.Grounds.{HasClients, ground_in, shown_in}
use Rattle.hc_abs_left.specs.Segments.{SegmentFits}
use Rattle.hc_abs_left.specs.declared.ground.Ground.{Ground}
use Rattle.hc_abs_left.specs.declared.segment.Segment.{Segment}
use Rattle.hc_abs_pass.specs.Listing.{ListedFits, so_far_of, stop_of}
use Rattle.hc_abs_pass.specs.Passing.{server_left}
use Rattle.hc_abs_pass.specs.Walks.{IsListed}
use Rattle.hc_abs_pass.specs.declared.list.Listed.{Listed}
use Rattle.hc_abs_rw.specs.Lists as lists
use Rattle.hc_abs_run.specs.Running.{AreOf}

abbrev pub listed_of : Caller → Listed → lists.Listed
listed_of caller listed = record { left = so_far_of listed.left; stop = stop_of caller listed.stop }

-- A branch of the list, with the clients of the set.
abbrev pub ListedAt : (ground : Ground) → Listed → Branch lists.Listed → Type 0
ListedAt ground listed branch = ListedFits ground.client ground.tests.now listed branch × HasClients ground branch.0

-- What follows a branch of the list.
abbrev pub ArePast : Ground → Listed → List Segment → Type 0
ArePast ground listed = AreOf ground (λ own. server_left own (listed_of ground.tests.now listed)) listed.tied

-- What follows each.
abbrev pub AllPast : Ground → List Listed → List Segment → Type 0
AllPast ground listed found = (levels : ℕ) → IsListed levels (shown_in ground)
    → AreNext (ListedAt ground) (SegmentFits ground.client ground.tests.now) (server_left (ground_in levels merges ground))
    listed found
