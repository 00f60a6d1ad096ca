-- A branch of an accepted cell, and where it leads.
use Rattle.std.proofs.Common.{◌≡◌, ◌⊎◌, inl, inr, ℕ, List, [], Bool, true, false, Option, Some, None}
use Rattle.std.proofs.Common.{refl, subst}
use Rattle.std.proofs.lemmas.Bool.{false≢true}
use Rattle.hc_invariant.specs.declared.cut.Cut.{Cut as Named}
use Rattle.hc_invariant.specs.declared.cut.Cut.TheVariants as named
use Rattle.hc_invariant.specs.declared.named.NamedCell.{NamedCell}
use Rattle.hc_plan.proofs.Slots.{same_bytes}
use Rattle.hc_plan.specs.Branches.{Branch}
use Rattle.hc_plan.specs.Cover.{Among}
use Rattle.hc_plan.specs.Running.{State}
use Rattle.hc_plan.specs.States.{AbsState}
use Rattle.hc_scope.specs.declared.claim.Claim.{Claim}
use Rattle.hc_scope.specs.declared.claim.Claim.TheVariants.{Stops}
use Rattle.hc_scope.specs.declared.claim.Scope.{Scope}
use Rattle.hc_serve.specs.Segments.{Cut, at_pass, dir_round, segment, server_round}
use Rattle.hc_serve.specs.Site.{Site}
use Rattle.hc_steps.specs.Run.{run}
use Rattle.hc_steps.specs.Step.{Shown}
use Rattle.hc_abs_again.specs.Arriving.{AreFromCut, IsArrival, IsTooLong}
use Rattle.hc_abs_force.specs.Merging.{merges}
use Rattle.hc_abs_pass.specs.Again.{AreFromDir}
use Rattle.hc_abs_pass.specs.Passing.{Ground, Segment}
use Rattle.hc_abs_segments.specs.Agreeing.{IsGround, ground_of}
use Rattle.hc_cert.specs.Claims.{IsBad}
use Rattle.hc_cert.specs.Cells.{Belongs, Lacks, known_in, led_to, same_cut}
use Rattle.hc_cert.specs.Checking.{AreBehind, AreFrom, LeaveBytes}
use Rattle.hc_cert.specs.Conditions.{Stalls, Strays, bounds_of, leaf_of}
use Rattle.hc_abs_again.proofs.Arriving.{each_has_arrival}
use Rattle.hc_held.proofs.Lying.{Stands, belongs_somewhere, cut_of, filled}
use Rattle.hc_held.proofs.Weakly.{Weakly, and_so, either_way, weakly}

-- ---- what is accepted

-- The claim and the cells of an invariant, for the requests that a site has.
pub record Basis : Type 0 where
  pub claim : Claim
  pub scope : Scope
  pub cells : List NamedCell
  pub site : Site
  pub shown : Shown
  pub levels : ℕ
  pub names : List ℕ → Bool

-- A branch is at no fault.
pub record IsFine (basis : Basis) (own : NamedCell) (branch : Branch Segment) : Type 0 where
  pub arrives : (text : List ℕ) → Strays basis.cells branch text → ⊥
  pub ends : IsBad basis.claim (leaf_of branch) → ⊥
  pub grows : basis.claim ≡ Stops → (text : List ℕ) → Stalls (bounds_of basis.site) basis.cells own branch text
      → ⊥

abbrev pub ground_on : Basis → Ground
ground_on basis = ground_of basis.site false basis.shown basis.levels merges basis.names

-- No branch of a cell is.
abbrev pub AreFine : Basis → NamedCell → Type 0
AreFine basis own = (branches : List (Branch Segment))
    × AreBehind (ground_on basis) own (known_in basis.scope own) branches
    × ((branch : Branch Segment) → Among branch branches → IsFine basis own branch)

pub record IsAccepted (basis : Basis) : Type 0 where
  pub ground : IsGround basis.site basis.shown basis.levels merges
  pub each : (own : NamedCell) → Among own basis.cells → AreFine basis own
  pub bytes : LeaveBytes (ground_on basis) basis.scope basis.cells

-- ---- the branch of a request

from_cut : (ground : Ground) (at : Named) (cut : Cut) (known : AbsState) (branches : List (Branch Segment))
    → same_cut at (cut_of cut) ≡ true → AreFrom ground at known branches → AreFromCut ground cut known branches
from_cut ground named.Pass (at_pass left) known branches is are = are
from_cut ground named.Server (server_round pass round next) known branches is are = are
from_cut ground (named.Dir own) (dir_round here dir round next) known branches is are =
    subst (λ dir. AreFromDir ground dir known branches) (same_bytes own dir is) are
from_cut ground at cut known branches is are = absurd (false≢true is)

module _ (basis : Basis) where
  pub record Arrives (own : NamedCell) (cut : Cut) : Type 0 where
    pub branches : List (Branch Segment)
    pub arrival : IsArrival basis.site cut branches (run (segment basis.site cut) basis.shown)
    pub fine : IsFine basis own (arrival.known, arrival.segment)

  pub arrives : IsAccepted basis → (own : NamedCell) (cut : Cut) (state : State) → Among own basis.cells
      → Stands basis.site basis.shown basis.scope own cut state
      → IsTooLong (run (segment basis.site cut) basis.shown) ⊎ Arrives own cut
  arrives accepted own cut state among stands = by (accepted.each own among).1
    where
      branches : List (Branch Segment)
      branches = (accepted.each own among).0

      found : IsTooLong (run (segment basis.site cut) basis.shown)
          ⊎ IsArrival basis.site cut branches (run (segment basis.site cut) basis.shown)
          → IsTooLong (run (segment basis.site cut) basis.shown) ⊎ Arrives own cut
      found (inl long) = inl long
      found (inr arrival) = inr (record {
        branches = branches;
        arrival = arrival;
        fine = (accepted.each own among).2 (arrival.known, arrival.segment) arrival.among;
      })

      by : AreBehind (ground_on basis) own (known_in basis.scope own) branches
          → IsTooLong (run (segment basis.site cut) basis.shown) ⊎ Arrives own cut
      by (inl none) = absurd (filled basis.scope own state stands.covers none.0)
      by (inr are) =
          found (each_has_arrival basis.site cut basis.shown basis.levels merges basis.names (known_in basis.scope own)
          state branches accepted.ground stands.reached stands.stands stands.covers
          (from_cut (ground_on basis) own.at cut (known_in basis.scope own) branches stands.at are.1))

-- Where a branch leads on, it can't be that it leads into no cell.
pub leads_in : (basis : Basis) (own : NamedCell) (branch : Branch Segment) → IsFine basis own branch → (at : Named)
    → led_to (branch.1).finish ≡ Some at
    → Weakly ((to : NamedCell) × Belongs (branch.0).cell at basis.cells (Some to))
leads_in basis own branch fine at leads =
    and_so (belongs_somewhere (branch.0).cell at basis.cells) (λ found. by found.0 found.1)
  where
    Told : Type 0
    Told = (text : List ℕ) × Lacks (branch.0).cell at basis.cells text

    none : Belongs (branch.0).cell at basis.cells None → ⊥
    none belongs = either_way Told told
      where
        told : Told ⊎ (Told → ⊥) → ⊥
        told (inl lacks) = fine.arrives lacks.0 (at, leads, belongs, inl lacks.1)
        told (inr isnt) = fine.arrives [] (at, leads, belongs, inr (λ other lacks. isnt (other, lacks), refl))

    by : (found : Option NamedCell) → Belongs (branch.0).cell at basis.cells found
        → Weakly ((to : NamedCell) × Belongs (branch.0).cell at basis.cells (Some to))
    by (Some to) belongs = weakly (to, belongs)
    by None belongs = absurd (none belongs)
