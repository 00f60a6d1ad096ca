-- The ends of chains, as code finds them.
use Rattle.std.specs.Prelude.{◌≡◌, ◌≤◌, ◌<◌, ◌+◌, ℕ, zero, suc, List, [], ◌∷◌, ◌++◌, length, Bool, true, ⊤}
use Rattle.std.specs.Prelude.{Option, None, Some, Result, Ok, Err}
use Rattle.std.specs.Borrow.{Bor}
use Rattle.hc_addr.specs.declared.addr.Addr.{Addr}
use Rattle.hc_base.specs.declared.fault.Fault.{Fault}
use Rattle.hc_base.specs.declared.fault.Fault.TheVariants.{NoMemory, Refused}
use Rattle.hc_cells.specs.Cells.{Sets}
use Rattle.hc_model.specs.declared.request.Caller.{Caller}
use Rattle.hc_plan.specs.Coded.{AllFit}
use Rattle.hc_plan.specs.Hands.{cell_of}
use Rattle.hc_scope.specs.declared.claim.Scope.{Scope}
use Rattle.hc_steps.specs.Shown.{shown_by}
use Rattle.hc_abs_leaves.specs.Fitting.{LeafFits}
use Rattle.hc_abs_leaves.specs.declared.leaf.Leaf.{Leaf as LeafIn}
use Rattle.hc_abs_pass.specs.Walks.{IsListed}
use Rattle.hc_abs_tree.specs.Trees.{Leaf}
use Rattle.hc_sent.specs.declared.leading.Led.{Led}
use Rattle.hc_ends.specs.Asking.{Site}
use Rattle.hc_ends.specs.Chains.{AllBehind, AreEnds, AreLast, AreLed, AreSomeEnds, Before}
use Rattle.hc_ends.specs.Chains.{ChainsIn, End, IsLed, Sends}
use Rattle.hc_ends.specs.Deciding.{bad_of}
use Rattle.hc_ends.specs.Lending.{site_of}
use Rattle.hc_ends.specs.declared.chaining.Stage.{Stage}
use Rattle.hc_ends.specs.declared.finding.BadEnd.{BadEnd}
use Rattle.hc_ends.specs.declared.finding.Before.{Before as BeforeIn}
use Rattle.hc_ends.specs.declared.finding.Found.{Found}
use Rattle.hc_ends.specs.declared.finding.TooMany.{TooMany}

-- ---- what stands for what

pub record BadFits (own : BadEnd) (end : End) : Type 0 where
  pub decisions : end.decisions ≡ own.decisions
  pub cell : (end.first).known.cell ≡ cell_of own.first

abbrev pub FirstFits : Option (Bor Sets) → Option Leaf → Type 0
FirstFits None found = found ≡ None
FirstFits (Some cell) found = (leaf : Leaf) × (found ≡ Some leaf) × (leaf.known.cell ≡ cell_of cell.now)

-- The cell of the first leaf, behind this one.
abbrev pub first_at : Option (Bor Sets) → LeafIn → Sets
first_at None leaf = (leaf.tied).cell
first_at (Some cell) leaf = cell.now

pub record BeforeFits (own : BeforeIn) (before : Before) : Type 0 where
  pub decisions : before.decisions ≡ own.decisions.now
  pub first : FirstFits own.first before.first

-- ---- what is found

-- All of these ends are counted, and the bad ones are kept.
pub record Adds (ends : List End) (old new : Found) : Type 0 where
  pub own : List BadEnd
  pub bad : new.bad.items ≡ old.bad.items ++ own
  pub fit : AllFit BadFits own (bad_of ends)
  pub count : new.left + length ends ≡ old.left

abbrev pub Finds : (Bool → List End → Type 0) → Found → Found → Result ⊤ (Fault TooMany) → Type 0
Finds Are old new (Ok done) = (cut : Bool) → (ends : List End) × Are cut ends × Adds ends old new
Finds Are old new (Err (Refused many)) = (ends : List End) × Are true ends × (old.left ≤ length ends)
Finds Are old new (Err NoMemory) = Unit {0}

-- ---- where it is found

-- How deep ever the world is, whatever comes before.
abbrev pub AtStage : Stage → (ℕ → Before → Type 0) → Type 0
AtStage stage Holds = (levels : ℕ) (before : Before) → IsListed levels (shown_by (site_of stage.chains).world)
    → BeforeFits stage.before before → Holds levels before

abbrev pub AtLeaf : Stage → Caller → LeafIn → (ℕ → Before → Leaf → Type 0) → Type 0
AtLeaf stage caller own Holds = AtStage stage (λ levels before. (client : Option Addr) (leaf : Leaf)
    → LeafFits client caller own leaf → Holds levels before leaf)

module _ (site : Site) (cut : Bool) (levels : ℕ) where
  -- What a redirect leads to, where so many may be followed.
  abbrev pub Onward : ℕ → Scope → Before → Leaf → Sends → List End → Type 0
  Onward zero scope before leaf = AreLast site cut levels scope before leaf
  Onward (suc left) scope before leaf = AreLed site cut levels scope before leaf (ChainsIn site cut levels left)

  -- The ends behind what a location leads to.
  abbrev pub AreFurther : ℕ → Scope → Before → Leaf → ℕ → List Led → List End → Type 0
  AreFurther left scope before leaf status =
      AllBehind (IsLed site cut levels scope before leaf (ChainsIn site cut levels left) status)

-- All ends are fewer than the limit, and these are the bad ones; or there are as many.
abbrev pub AreBadEnds : Site → Scope → ℕ → Option (List BadEnd) → Type 0
AreBadEnds site scope limit None = (levels : ℕ) → IsListed levels (shown_by site.world)
    → (ends : List End) × AreSomeEnds site levels scope ends × (limit ≤ length ends)
AreBadEnds site scope limit (Some bad) = (levels : ℕ) → IsListed levels (shown_by site.world)
    → (ends : List End) × AreEnds site levels scope ends × (length ends < limit) × AllFit BadFits bad (bad_of ends)
