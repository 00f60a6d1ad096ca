-- The branches of a node, as code has them, and what they put in its place.
use Rattle.std.specs.Prelude.{◌≡◌, ℕ, List, ◌++◌, map, reverse, Bool}
use Rattle.hc_model.specs.declared.section.Body.{Body}
use Rattle.hc_plan.specs.Branches.{Branch, Branches}
use Rattle.hc_plan.specs.Coded.{AllFit}
use Rattle.hc_plan.specs.States.{AbsState}
use Rattle.hc_plan.specs.declared.storing.Tied.{Tied}
use Rattle.hc_abs_left.specs.Grounds.{HasClients, SettingsFit, ground_in, shown_in}
use Rattle.hc_abs_left.specs.Segments.{Are}
use Rattle.hc_abs_left.specs.declared.ground.Ground.{Ground}
use Rattle.hc_abs_left.specs.declared.ground.Settings.{Settings as LentSettings}
use Rattle.hc_abs_left.specs.declared.segment.Segment.{Segment as SegmentIn}
use Rattle.hc_abs_pass.specs.Listing.{so_far_of}
use Rattle.hc_abs_pass.specs.Passing.{Segment, Settings}
use Rattle.hc_abs_pass.specs.Walks.{IsListed}
use Rattle.hc_abs_pass.specs.declared.list.SoFar.{SoFar}
use Rattle.hc_abs_rw.specs.RuleBranches.{Rests}
use Rattle.hc_abs_tree.specs.Trees.{At, Next, Node, Soil, dir_plan, next_of, plan_at}
use Rattle.hc_abs_leaves.specs.Fitting.{AtFits, NodeFits, PendingFits, soil_in}
use Rattle.hc_abs_leaves.specs.declared.node.At.{At as AtIn}
use Rattle.hc_abs_leaves.specs.declared.node.Node.{Node as NodeIn}
use Rattle.hc_abs_leaves.specs.declared.node.Pending.{Pending}

-- Those of one round of the rules of the directory that is in force, if there is one.
abbrev pub AreIn : (ground : Ground) → LentSettings → SoFar → Tied → List SegmentIn → Type 0
AreIn ground lent so_far before found = (levels : ℕ) (merges : Body → Bool) (settings : Settings) (state : AbsState)
    → SettingsFit lent settings → Rests ground.client before state
    → Are ground (dir_plan (ground_in levels merges ground) settings (so_far_of so_far) settings.force.dir) state found

-- Those from there on, in the pass of this number.
abbrev pub AreAt : Ground → ℕ → AtIn → Tied → List SegmentIn → Type 0
AreAt ground number own before found = (levels : ℕ) (at : At) (state : AbsState) → IsListed levels (shown_in ground)
    → AtFits number own at → Rests ground.client before state → HasClients ground state
    → Are ground (plan_at (soil_in levels ground) at) state found

-- What its branches lead to, the last one first.
abbrev pub Splits : Soil → Node → List Next → Type 0
Splits soil node nexts = (branches : List (Branch Segment)) × Branches (plan_at soil node.at) node.known branches
    × (nexts ≡ reverse (map (next_of node) branches))

-- It stands in the place of the node.
abbrev pub Grows : Ground → NodeIn → List Pending → List Pending → Type 0
Grows ground own before after = (levels : ℕ) (node : Node) (nexts : List Next) → IsListed levels (shown_in ground)
    → NodeFits ground own node → AllFit (PendingFits ground) before nexts
    → (more : List Next) × AllFit (PendingFits ground) after (nexts ++ more) × Splits (soil_in levels ground) node more
