-- Whether an invariant is accepted. Our own choice.
use Rattle.std.specs.Prelude.{◌≡◌, ◌⊎◌, ◌≤◌, ◌<◌, ℕ, ◌+◌, nat_lt, List, [], ◌∷◌, ◌++◌, length, Bool, true, false}
use Rattle.std.specs.Prelude.{Option}
use Rattle.std.specs.Prelude.{None, Some, if◌then◌else◌}
use Rattle.std.specs.List.{AllByRecursion, flat_map, list_any}
use Rattle.hc_invariant.specs.declared.cut.Cut.{Cut}
use Rattle.hc_invariant.specs.declared.cut.Cut.TheVariants as cut
use Rattle.hc_invariant.specs.declared.named.NamedCell.{NamedCell}
use Rattle.hc_members.specs.Requests.{common_request}
use Rattle.hc_named.specs.Named.{AreNames}
use Rattle.hc_named.specs.declared.names.Names.{Names}
use Rattle.hc_plan.specs.Branches.{Branch}
use Rattle.hc_plan.specs.States.{AbsState}
use Rattle.hc_scope.specs.declared.claim.Claim.{Claim}
use Rattle.hc_scope.specs.declared.claim.Scope.{Scope}
use Rattle.hc_serve.specs.Site.{Site, site_at}
use Rattle.hc_steps.specs.Shown.{shown_by}
use Rattle.hc_abs_again.specs.Bytes.{ServerHasBytes}
pub use Rattle.hc_abs_cuts.specs.Cuts.{AreFrom}
use Rattle.hc_abs_force.specs.Merging.{merges}
use Rattle.hc_abs_pass.specs.Passing.{Ground, Segment}
use Rattle.hc_abs_restart.specs.Restarted.{is_among}
use Rattle.hc_abs_segments.specs.Agreeing.{ground_of}
use Rattle.hc_claim.specs.Asking.{Asked, HasEmptySlot, host_of, known_before, rules_of}
use Rattle.hc_cert.specs.Cells.{Belongs, Lacks, known_in}
use Rattle.hc_cert.specs.Conditions.{FaultBy, asks_ranks, bounds_of}
use Rattle.hc_cert.specs.declared.bounds.Bounds.{Bounds}
use Rattle.hc_cert.specs.declared.verdict.Condition.{Condition}
use Rattle.hc_cert.specs.declared.verdict.Condition.TheVariants as condition
use Rattle.hc_cert.specs.declared.verdict.Found.{Found}
use Rattle.hc_cert.specs.declared.verdict.Rejection.{Rejection}
use Rattle.hc_cert.specs.declared.verdict.TheConstants.{MOST_BRANCHES, MOST_CELLS}
use Rattle.hc_cert.specs.declared.verdict.Verdict.{Verdict}
use Rattle.hc_cert.specs.declared.verdict.Verdict.TheVariants.{Accepted, Rejected}

-- ---- the branches of the cells

-- The variables of the cells are looked at, too.
abbrev pub with_cells : Names → List NamedCell → Names
with_cells names cells = record names { variables = names.variables ++ flat_map (λ own. own.variables) cells }

abbrev pub site_of : Asked → Site
site_of asked = site_at asked.config (host_of asked) (common_request asked.scope)

-- No pass is the last one.
abbrev pub ground_in : Asked → ℕ → Names → Ground
ground_in asked levels names =
    ground_of (site_of asked) false (shown_by asked.world) levels merges (is_among names.variables)

-- A cell of which a slot has no text has none.
abbrev pub AreBehind : (ground : Ground) → NamedCell → AbsState → List (Branch Segment) → Type 0
AreBehind ground own known branches = (HasEmptySlot known × (branches ≡ []))
    ⊎ ((HasEmptySlot known → ⊥) × AreFrom ground own.at known branches)

pub record Walked : Type 0 where
  pub own : NamedCell
  pub branches : List (Branch Segment)

abbrev pub AreWalked : Asked → Ground → List NamedCell → List Walked → Type 0
AreWalked asked ground [] walked = walked ≡ []
AreWalked asked ground (own ∷ cells) walked =
    (branches : List (Branch Segment)) × (rest : List Walked)
    × (walked ≡ record { own = own; branches = branches } ∷ rest)
    × AreBehind ground own (known_in asked.scope own) branches × AreWalked asked ground cells rest

-- ---- queries of bytes

abbrev pub is_dir : Cut → Bool
is_dir (cut.Dir dir) = true
is_dir other = false

-- Where the server's list runs from a cell, what it leaves has a query of bytes.
abbrev pub LeavesBytes : (ground : Ground) → Scope → NamedCell → Type 0
LeavesBytes ground scope own = elim (is_dir own.at) [
  | true ↦ Unit {0}
  | false ↦ HasEmptySlot (known_in scope own) ⊎ ServerHasBytes ground (known_in scope own)
]

-- A directory's list goes on with the sections that were found behind the server's list, and these may ask for the
-- query. So it is looked at where a cell is at a directory's list.
abbrev pub LeaveBytes : (ground : Ground) → Scope → List NamedCell → Type 0
LeaveBytes ground scope cells =
    (list_any (λ own. is_dir own.at) cells ≡ true) → AllByRecursion (LeavesBytes ground scope) cells

-- ---- the first fault

module _ (Fault : NamedCell → Branch Segment → List ℕ → Type 0) where
  -- The first branch that is at fault.
  abbrev pub FirstIn : NamedCell → List (Branch Segment) → Option Found → Type 0
  FirstIn own [] found = found ≡ None
  FirstIn own (branch ∷ branches) found =
      ((text : List ℕ) × Fault own branch text
      × (found ≡ Some (record { branch = (branch.1).decisions; text = text })))
      ⊎ (((text : List ℕ) → Fault own branch text → ⊥) × FirstIn own branches found)

  abbrev pub OrBehind : Condition → ℕ → (Option Rejection → Type 0) → Option Found → Option Rejection → Type 0
  OrBehind of number Behind None said = Behind said
  OrBehind of number Behind (Some found) said =
      said ≡ Some (record { condition = of; cell = number; branch = found.branch; text = found.text })

  -- Of the first cell that has one. Cells are counted from a number.
  abbrev pub FirstOf : Condition → ℕ → List Walked → Option Rejection → Type 0
  FirstOf of number [] said = said ≡ None
  FirstOf of number (walked ∷ more) said =
      (found : Option Found) × FirstIn walked.own walked.branches found
      × OrBehind of number (FirstOf of (number + 1) more) found said

-- ---- the conditions

abbrev pub bare : Condition → ℕ → List ℕ → Rejection
bare of number text = record { condition = of; cell = number; branch = []; text = text }

-- Size: no cell has too many branches.
abbrev pub too_many : ℕ → List Walked → Option Rejection
too_many number [] = None
too_many number (walked ∷ more) =
    if nat_lt MOST_BRANCHES (length walked.branches) then Some (bare condition.Size number [])
    else too_many (number + 1) more

-- Start: the requests of the scope begin in a cell.
abbrev pub Begins : Asked → List NamedCell → Names → Option Rejection → Type 0
Begins asked cells names said =
    ((own : NamedCell) × Belongs (known_before asked names).cell cut.Pass cells (Some own) × (said ≡ None))
    ⊎ ((text : List ℕ) × Belongs (known_before asked names).cell cut.Pass cells None
    × Lacks (known_before asked names).cell cut.Pass cells text × (said ≡ Some (bare condition.Start 0 text)))

module _ (claim : Claim) (cells : List NamedCell) (bounds : Bounds) (walked : List Walked) where
  abbrev pub Sought : Condition → Option Rejection → Type 0
  Sought of = FirstOf (FaultBy claim cells bounds of) of 0 walked

  -- A claim that asks no ranks has none that stall.
  abbrev pub Ranks : Option Rejection → Type 0
  Ranks said = elim (asks_ranks claim) [
    | true ↦ Sought condition.Ranks said
    | false ↦ said ≡ None
  ]

  -- Arrivals, ends and ranks.
  abbrev pub of_branches : List (Option Rejection → Type 0)
  of_branches = Sought condition.Arrivals ∷ Sought condition.Ends ∷ Ranks ∷ []

-- In the order in which they are looked at.
abbrev pub conditions : Asked → List NamedCell → Names → List Walked → List (Option Rejection → Type 0)
conditions asked cells names walked = (λ said. said ≡ too_many 0 walked) ∷ Begins asked cells names
    ∷ of_branches asked.claim cells (bounds_of (site_of asked)) walked

-- ---- the verdict

abbrev pub OrNext : (Option Rejection → Type 0) → Option Rejection → Option Rejection → Type 0
OrNext Next None said = Next said
OrNext Next (Some rejection) said = said ≡ Some rejection

-- The first condition that rejects.
abbrev pub FirstSaid : List (Option Rejection → Type 0) → Option Rejection → Type 0
FirstSaid [] said = said ≡ None
FirstSaid (Says ∷ more) said = (own : Option Rejection) × Says own × OrNext (FirstSaid more) own said

abbrev pub verdict_of : Option Rejection → Verdict
verdict_of None = Accepted
verdict_of (Some rejection) = Rejected rejection

-- What the conditions say of the branches of all cells.
pub record IsSaid (asked : Asked) (cells : List NamedCell) (levels : ℕ) (said : Option Rejection) : Type 0 where
  pub names : Names
  pub named : AreNames (rules_of asked) names
  pub walked : List Walked
  pub are : AreWalked asked (ground_in asked levels (with_cells names cells)) cells walked
  pub bytes : LeaveBytes (ground_in asked levels (with_cells names cells)) asked.scope cells
  pub first : FirstSaid (conditions asked cells (with_cells names cells) walked) said

pub record IsChecked (asked : Asked) (cells : List NamedCell) (levels : ℕ) (verdict : Verdict) : Type 0 where
  pub few : length cells ≤ MOST_CELLS
  pub said : Option Rejection
  pub so : IsSaid asked cells levels said
  pub is : verdict ≡ verdict_of said

-- More cells than these are rejected, whatever they are.
pub record AreTooMany (cells : List NamedCell) (verdict : Verdict) : Type 0 where
  pub many : MOST_CELLS < length cells
  pub is : verdict ≡ Rejected (bare condition.Size MOST_CELLS [])

abbrev pub IsVerdict : Asked → List NamedCell → ℕ → Verdict → Type 0
IsVerdict asked cells levels verdict = AreTooMany cells verdict ⊎ IsChecked asked cells levels verdict
