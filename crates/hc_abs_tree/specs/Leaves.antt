-- Each request has a leaf.
use Rattle.std.specs.Prelude.{◌≡◌, ◌⊎◌, ℕ, List, [], Option}
use Rattle.hc_model.specs.declared.authorization.ReqTree.{ReqTree}
use Rattle.hc_model.specs.declared.event.Decision.{Decision}
use Rattle.hc_model.specs.declared.outcome.Outcome.{Outcome}
use Rattle.hc_model.specs.declared.outcome.Outcome.TheVariants as outcome
use Rattle.hc_model.specs.declared.outcome.Reason.TheVariants.{LongText}
use Rattle.hc_plan.specs.Cover.{Among, Covers}
use Rattle.hc_plan.specs.Running.{State}
use Rattle.hc_plan.specs.States.{AbsState}
use Rattle.hc_serve.specs.Segments.{Cut, at_pass, segment, segments}
use Rattle.hc_serve.specs.ServerRules.{context_at, pass_with}
use Rattle.hc_serve.specs.Site.{Site}
use Rattle.hc_serve.specs.declared.stage.Ended.{Ended}
use Rattle.hc_serve.specs.declared.stage.Pass.{Pass}
use Rattle.hc_steps.specs.Run.{Run, Way, goes_on, is_over, run}
use Rattle.hc_steps.specs.Step.{Shown}
use Rattle.hc_abs_rw.specs.Standing.{Leads, decisions_in}
use Rattle.hc_abs_pass.specs.Ends.{AreOnce, Ends, MeetsPass}
use Rattle.hc_abs_pass.specs.Passing.{Finish, ruled, stopped}
use Rattle.hc_abs_segments.specs.Agreeing.{IsGround}
use Rattle.hc_abs_segments.specs.Counting.{pass_at}
use Rattle.hc_abs_tree.specs.Trees.{AreLeaves, Leaf, Node, Soil, common_site, pass}

-- The request ends as the leaf says, in its last pass.
abbrev pub FinishedSo : Site → Pass → State → Finish → Way Outcome Pass → Type 0
FinishedSo site last state (stopped left) way = Ends site state left way
FinishedSo site last state (ruled next) way = Leads (context_at site last) (pass_with last) state next way
FinishedSo site last state other way = ⊥

-- From one cut to another are some segments.
abbrev pub Reaches : Site → Shown → Cut → Cut → Type 0
Reaches site shown from to = (count : ℕ) × ((run (segments count site from) shown).way ≡ goes_on to)

-- The leaf has the decisions of the request, and the tree of Require lines of its last pass, ends as the request does,
-- and covers what it leaves.
pub record IsLeafOf (site : Site) (shown : Shown) (from : Cut) (leaf : Leaf) (ended : Ended)
    (decisions : List Decision) : Type 0 where
  pub state : State
  pub covers : Covers leaf.known state
  pub decided : leaf.decisions ≡ decisions
  pub require : leaf.require ≡ ended.require
  -- The last segment is of the last pass.
  pub last : Cut
  pub reached : Reaches site shown from last
  pub over : (run (segment site last) shown).way ≡ is_over ended
  pub finish : FinishedSo site (pass_at last) state leaf.finish (is_over ended.outcome)

-- The way of a request from a cut.
abbrev pub way_from : Site → Shown → ℕ → Cut → Run Ended Cut
way_from site shown count cut = run (segments count site cut) shown

-- One of the leaves is that of the request, unless a text is too long.
abbrev pub HasLeaf : Site → Shown → Cut → List Leaf → Ended → List Decision → Type 0
HasLeaf site shown from leaves ended decisions =
    (ended.outcome ≡ outcome.Outside LongText)
    ⊎ ((leaf : Leaf) × Among leaf leaves × IsLeafOf site shown from leaf ended decisions)

abbrev pub begun_at : Pass → Option ReqTree → Cut
begun_at begun require = at_pass (record { pass = begun; require = require })

-- Each request that is covered at the start has a leaf, whatever number of segments it takes. The tree is that of any
-- site which has in common with this one what all requests have.
abbrev pub EachHasLeaf : Type 0
EachHasLeaf = (soil : Soil) (site : Site) (begun : Pass) (require : Option ReqTree) (known : AbsState) (state : State)
    (leaves : List Leaf) (count : ℕ) (ended : Ended)
    → common_site soil.site ≡ common_site site → IsGround site soil.shown soil.levels soil.merges
    → MeetsPass site begun state → AreOnce begun.vars → Covers known state
    → AreLeaves soil (record { at = pass begun.number; known = known; decided = [] }) leaves
    → (way_from site soil.shown count (begun_at begun require)).way ≡ is_over ended
    → HasLeaf site soil.shown (begun_at begun require) leaves ended
    (decisions_in (way_from site soil.shown count (begun_at begun require)).events)

-- A tree has one list of leaves.
abbrev pub LeavesAreOne : Type 0
LeavesAreOne = (soil : Soil) (node : Node) (one other : List Leaf) → AreLeaves soil node one → AreLeaves soil node other
    → one ≡ other
