-- The tree of branches over all passes and rounds: what a set of requests comes to.
use Rattle.std.specs.Prelude.{◌≡◌, ℕ, zero, suc, ◌+◌, nat_le, List, [], ◌∷◌, ◌++◌, Bool, true, false, Option, None}
use Rattle.std.specs.Prelude.{Some}
use Rattle.hc_model.specs.declared.authorization.ReqTree.{ReqTree}
use Rattle.hc_model.specs.declared.event.Decision.{Decision}
use Rattle.hc_model.specs.declared.outcome.LimitKind.TheVariants.{Rounds}
use Rattle.hc_model.specs.declared.rewrite.Rule.{Rule}
use Rattle.hc_model.specs.declared.section.Body.{Body}
use Rattle.hc_plan.specs.Branches.{Branch, Branches}
use Rattle.hc_plan.specs.Plan.{Plan, leave_out}
use Rattle.hc_plan.specs.States.{AbsState}
use Rattle.hc_serve.specs.Site.{Site, most_passes}
use Rattle.hc_steps.specs.Step.{Shown}
use Rattle.hc_abs_rw.specs.Frames.{common}
use Rattle.hc_abs_rw.specs.Lists.{SoFar}
use Rattle.hc_abs_pass.specs.Ends.{Left, limit, next_pass}
use Rattle.hc_abs_pass.specs.Passing.{Finish, Ground, Segment, Settings, dir_round_plan, engine_by, pass_plan, ruled}
use Rattle.hc_abs_pass.specs.Passing.{server_round_plan, stopped}
use Rattle.hc_abs_pass.specs.Passing.{dir_round as in_dir_again, server_round as in_server_again}
use Rattle.hc_abs_segments.specs.Agreeing.{ground_of}

-- ---- what the tree is made for

-- The site of a request of the set; the world and how deep it is; what merges a setting, and the variables that are
-- looked at.
pub record Soil : Type 0 where
  pub site : Site
  pub shown : Shown
  pub levels : ℕ
  pub merges : Body → Bool
  pub names : List ℕ → Bool

-- A site without what differs from request to request: the tree is made of no more of it.
abbrev pub common_site : Site → Site
common_site site = record site { caller = common site.caller }

-- No pass may follow the one of this number.
abbrev pub is_last_number : Site → ℕ → Bool
is_last_number site number = nat_le (most_passes site.config site.host) (number + 1)

abbrev pub ground_at : Soil → ℕ → Ground
ground_at soil number =
    ground_of soil.site (is_last_number soil.site number) soil.shown soil.levels soil.merges soil.names

-- ---- nodes

-- Before the pass of this number; before a round of the server's list in it; before one of a directory's list.
pub data At : Type 0 where
  pass : ℕ → At
  server : ℕ → ℕ → SoFar → At
  directory : ℕ → ℕ → Settings → SoFar → At

abbrev pub dir_plan : Ground → Settings → SoFar → Option (List ℕ) → Plan Segment
dir_plan base settings so_far None = leave_out
dir_plan base settings so_far (Some dir) = dir_round_plan base settings (engine_by base settings dir) so_far

-- The plan of the segment that begins there.
abbrev pub plan_at : Soil → At → Plan Segment
plan_at soil (pass number) = pass_plan (ground_at soil number)
plan_at soil (server number round so_far) = server_round_plan (ground_at soil number) so_far
plan_at soil (directory number round settings so_far) =
    dir_plan (ground_at soil number) settings so_far settings.force.dir

-- What is known there, and what was decided in the segments before.
pub record Node : Type 0 where
  pub at : At
  pub known : AbsState
  pub decided : List Decision

-- An end of requests.
pub record Leaf : Type 0 where
  pub known : AbsState
  pub decisions : List Decision
  pub require : Option ReqTree
  pub finish : Finish

-- ---- what follows a branch

pub data Next : Type 0 where
  ends : Leaf → Next
  goes : Node → Next

abbrev pub number_of : At → ℕ
number_of (pass number) = number
number_of (server number round so_far) = number
number_of (directory number round settings so_far) = number

-- The round of the server's list, and that of a directory's.
abbrev pub server_at : At → ℕ
server_at (pass number) = 1
server_at (server number round so_far) = round
server_at (directory number round settings so_far) = 1

abbrev pub directory_at : At → ℕ
directory_at (pass number) = 1
directory_at (server number round so_far) = 1
directory_at (directory number round settings so_far) = round

abbrev pub leaf_of : Node → AbsState → Segment → Finish → Leaf
leaf_of node known segment finish = record {
  known = known;
  decisions = node.decided ++ segment.decisions;
  require = segment.require;
  finish = finish;
}

-- The decisions of a segment are all those of its pass, and a further round goes on with them.
abbrev pub on_from : Segment → SoFar → SoFar
on_from segment so_far = record so_far { decisions = segment.decisions }

-- A rule begins a further round, where its bound allows one.
abbrev pub unless_bound : Node → AbsState → Segment → Rule → ℕ → At → Next
unless_bound node known segment rule round at = elim (nat_le rule.flags.rounds round) [
  | true ↦ ends (leaf_of node known segment (stopped (limit Rounds)))
  | false ↦ goes (record { at = at; known = known; decided = node.decided })
]

abbrev pub unless_next : Node → AbsState → Segment → Left → Next
unless_next node known segment next_pass = goes (record {
  at = pass (number_of node.at + 1);
  known = known;
  decided = node.decided ++ segment.decisions;
})
unless_next node known segment left = ends (leaf_of node known segment (stopped left))

abbrev pub next_by : Node → AbsState → Segment → Finish → Next
next_by node known segment (stopped left) = unless_next node known segment left
next_by node known segment (ruled next) = ends (leaf_of node known segment (ruled next))
next_by node known segment (in_server_again rule so_far) = unless_bound node known segment rule (server_at node.at)
    (server (number_of node.at) (server_at node.at + 1) (on_from segment so_far))
next_by node known segment (in_dir_again settings rule so_far) =
    unless_bound node known segment rule (directory_at node.at)
    (directory (number_of node.at) (directory_at node.at + 1) settings (on_from segment so_far))

abbrev pub next_of : Node → Branch Segment → Next
next_of node branch = next_by node branch.0 branch.1 (branch.1).finish

-- ---- the tree

-- An end is one leaf, and what goes on has those of its own tree.
abbrev pub Behind : (Node → List Leaf → Type 0) → Next → List Leaf → Type 0
Behind Further (ends leaf) leaves = leaves ≡ leaf ∷ []
Behind Further (goes further) leaves = Further further leaves

-- The leaves behind each branch, in order.
abbrev pub Grown : (Node → List Leaf → Type 0) → Node → List (Branch Segment) → List Leaf → Type 0
Grown Further node [] leaves = leaves ≡ []
Grown Further node (branch ∷ branches) leaves =
    (one : List Leaf) × (more : List Leaf) × (leaves ≡ one ++ more)
    × Behind Further (next_of node branch) one × Grown Further node branches more

-- These are the leaves of the tree, depth first; it is no higher than so many segments.
unfoldable pub TreeIn : Soil → ℕ → Node → List Leaf → Type 0
TreeIn soil zero node leaves = ⊥
TreeIn soil (suc height) node leaves =
    (branches : List (Branch Segment)) × Branches (plan_at soil node.at) node.known branches
    × Grown (TreeIn soil height) node branches leaves

abbrev pub AreLeaves : Soil → Node → List Leaf → Type 0
AreLeaves soil node leaves = (height : ℕ) × TreeIn soil height node leaves
