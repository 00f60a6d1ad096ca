-- What follows a branch of a segment, as code makes it.
use Rattle.std.specs.Prelude.{ℕ, ◌+◌, nat_le, List, ◌++◌, if◌then◌else◌}
use Rattle.hc_model.specs.declared.event.Decision.{Decision}
use Rattle.hc_model.specs.declared.outcome.LimitKind.TheVariants.{Rounds}
use Rattle.hc_plan.specs.Branches.{Branch}
use Rattle.hc_plan.specs.declared.storing.Tied.{Tied}
use Rattle.hc_abs_left.specs.Grounds.{HasClients}
use Rattle.hc_abs_left.specs.Segments.{SegmentFits}
use Rattle.hc_abs_left.specs.declared.ground.Ground.{Ground}
use Rattle.hc_abs_left.specs.declared.segment.Finish.{Finish}
use Rattle.hc_abs_left.specs.declared.segment.Finish.TheVariants as finish
use Rattle.hc_abs_left.specs.declared.segment.Segment.{Segment as SegmentIn}
use Rattle.hc_abs_pass.specs.Passing.{Segment}
use Rattle.hc_abs_pass.specs.declared.ends.Left.{Left}
use Rattle.hc_abs_pass.specs.declared.ends.Left.TheVariants as left
use Rattle.hc_abs_pass.specs.declared.list.SoFar.{SoFar}
use Rattle.hc_abs_leaves.specs.declared.following.Parent.{Parent}
use Rattle.hc_abs_leaves.specs.declared.following.Reached.{Reached}
use Rattle.hc_abs_leaves.specs.declared.leaf.LeafEnd.{LeafEnd}
use Rattle.hc_abs_leaves.specs.declared.leaf.LeafEnd.TheVariants as end
use Rattle.hc_abs_leaves.specs.declared.node.At.{At}
use Rattle.hc_abs_leaves.specs.declared.node.At.TheVariants as place
use Rattle.hc_abs_leaves.specs.declared.node.Pending.{Pending}
use Rattle.hc_abs_leaves.specs.declared.node.Pending.TheVariants as pending

-- ---- nodes and leaves

abbrev pub node_in : ℕ → At → Tied → List Decision → Pending
node_in number at tied decided =
    pending.Goes (record { number = number; at = at; tied = tied; decided = decided })

-- All decisions of the pass are those of the segment.
abbrev pub on_from : List Decision → SoFar → SoFar
on_from decisions left = record left { decisions = decisions }

module _ (parent : Parent) (reached : Reached) where
  abbrev pub leaf_in : LeafEnd → Pending
  leaf_in end = pending.Ends (record {
    tied = reached.tied;
    decisions = parent.decided.now ++ reached.decisions;
    require = reached.require;
    end = end;
  })

  abbrev pub limited_in : Pending
  limited_in = leaf_in (end.Stopped (left.Limit Rounds))

  -- ---- by how the segment ends

  abbrev pub stopped_in : Left → Pending
  stopped_in left.NextPass =
      node_in (parent.number + 1) place.Pass reached.tied (parent.decided.now ++ reached.decisions)
  stopped_in own = leaf_in (end.Stopped own)

  -- A rule allows so many rounds, and this one is over.
  abbrev pub unless_bound : ℕ → ℕ → At → Pending
  unless_bound rounds round at =
      if nat_le rounds round then limited_in else node_in parent.number at reached.tied parent.decided.now

  abbrev pub next_by : Finish → Pending
  next_by (finish.Stopped left) = stopped_in left
  next_by (finish.Ruled next) = leaf_in (end.Ruled next)
  next_by (finish.ServerRound rule left) =
      unless_bound rule.flags.rounds parent.server (place.Server (parent.server + 1) (on_from reached.decisions left))
  next_by (finish.DirRound settings rule left) =
      unless_bound rule.flags.rounds parent.directory
      (place.Directory (parent.directory + 1) settings (on_from reached.decisions left))

abbrev pub reached_in : SegmentIn → Reached
reached_in segment = record { tied = segment.tied; decisions = segment.decisions; require = segment.require }

abbrev pub next_in : Parent → SegmentIn → Pending
next_in parent segment = next_by parent (reached_in segment) segment.finish

-- ---- branches

-- A branch of a segment, with the clients of the set.
abbrev pub SegmentAt : (ground : Ground) → SegmentIn → Branch Segment → Type 0
SegmentAt ground segment branch = SegmentFits ground.client ground.tests.now segment branch × HasClients ground branch.0

-- The round of the server's list before which a place stands, and that of a directory's.
abbrev pub server_in : At → ℕ
server_in place.Pass = 1
server_in (place.Server round so_far) = round
server_in (place.Directory round settings so_far) = 1

abbrev pub directory_in : At → ℕ
directory_in place.Pass = 1
directory_in (place.Server round so_far) = 1
directory_in (place.Directory round settings so_far) = round
