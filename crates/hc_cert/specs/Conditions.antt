-- What is asked of the branches from named cells. Our own choice.
use Rattle.std.specs.Prelude.{◌≡◌, ◌⊎◌, ℕ, nat_lt, nat_le, List, [], Bool, true, false, ◌&&◌, Option, None}
use Rattle.std.specs.Prelude.{Some}
use Rattle.std.specs.Prelude.{if◌then◌else◌, unwrap_or}
use Rattle.hc_model.specs.declared.rewrite.Rule.{Rule}
use Rattle.hc_invariant.specs.declared.cut.Cut.{Cut}
use Rattle.hc_invariant.specs.declared.cut.Cut.TheVariants as cut
use Rattle.hc_invariant.specs.declared.named.NamedCell.{NamedCell}
use Rattle.hc_dfa.specs.Texts.{TextSet}
use Rattle.hc_plan.specs.Branches.{Branch}
use Rattle.hc_plan.specs.Slots.{Slot}
use Rattle.hc_rank.specs.Ranks.{shrinks}
use Rattle.hc_scope.specs.declared.claim.Claim.{Claim}
use Rattle.hc_scope.specs.declared.claim.Claim.TheVariants.{Stops}
use Rattle.hc_serve.specs.ServerRules.{rules_at}
use Rattle.hc_serve.specs.Site.{Site, most_passes}
use Rattle.hc_abs_pass.specs.Passing.{Finish, Segment, dir_round, server_round}
use Rattle.hc_abs_tree.specs.Trees.{Leaf}
use Rattle.hc_claim.specs.Bad.{IsBad}
use Rattle.hc_cert.specs.Cells.{Belongs, Lacks, led_to, same_cut}
use Rattle.hc_cert.specs.declared.bounds.Bounds.{Bounds}
use Rattle.hc_cert.specs.declared.verdict.Condition.{Condition}
use Rattle.hc_cert.specs.declared.verdict.Condition.TheVariants as condition

-- ---- arrivals: each branch that leads on leads into a cell

-- What is lacking, or the empty text where no text of bytes is.
abbrev pub IsTold : (Slot → TextSet) → Cut → List NamedCell → List ℕ → Type 0
IsTold states at cells text = Lacks states at cells text
    ⊎ (((other : List ℕ) → Lacks states at cells other → ⊥) × (text ≡ []))

abbrev pub Strays : List NamedCell → Branch Segment → List ℕ → Type 0
Strays cells branch text = (at : Cut) × (led_to (branch.1).finish ≡ Some at) × Belongs (branch.0).cell at cells None
    × IsTold (branch.0).cell at cells text

-- ---- ends: no branch is bad

-- A branch as a leaf: what was decided from the cell on.
abbrev pub leaf_of : Branch Segment → Leaf
leaf_of branch = record {
  known = branch.0;
  decisions = (branch.1).decisions;
  require = (branch.1).require;
  finish = (branch.1).finish;
}

abbrev pub IsBadEnd : Claim → Branch Segment → List ℕ → Type 0
IsBadEnd claim branch text = IsBad claim (leaf_of branch) × (text ≡ [])

-- ---- ranks: ranks and rounds grow

-- What a round has to be over: that of a cell of the same cut, where it has one.
abbrev pub round_before : NamedCell → Cut → ℕ
round_before from at = if same_cut from.at at then unwrap_or from.round 0 else 0

-- A round stays below the bound of the rule that begins it. A cell without one asks that the list shrinks; a rule of
-- such a list that begins a round may begin many.
abbrev pub round_grows : NamedCell → Cut → Rule → Bool → Option ℕ → Bool
round_grows from at rule shorter (Some round) = nat_lt round rule.flags.rounds && nat_lt (round_before from at) round
round_grows from at rule shorter None = shorter && nat_lt 1 rule.flags.rounds

abbrev pub bounds_of : Site → Bounds
bounds_of site = record {
  passes = most_passes site.config site.host;
  shrinks = shrinks false (rules_at site);
}

-- By how the branch ends, from one cell to another.
abbrev pub grows : Bounds → NamedCell → Finish → NamedCell → Bool
grows bounds from (server_round rule so_far) to =
    nat_le from.rank to.rank && round_grows from cut.Server rule bounds.shrinks to.round
grows bounds from (dir_round settings rule so_far) to =
    nat_le from.rank to.rank && round_grows from to.at rule (shrinks true settings.force.rules) to.round
grows bounds from other to = nat_lt from.rank to.rank && nat_lt to.rank bounds.passes

abbrev pub asks_ranks : Claim → Bool
asks_ranks Stops = true
asks_ranks other = false

abbrev pub Stalls : Bounds → List NamedCell → NamedCell → Branch Segment → List ℕ → Type 0
Stalls bounds cells from branch text = (at : Cut) × (to : NamedCell) × (led_to (branch.1).finish ≡ Some at)
    × Belongs (branch.0).cell at cells (Some to) × (grows bounds from (branch.1).finish to ≡ false) × (text ≡ [])

-- ---- faults

-- A branch is at fault by a condition; by those of the whole it is by none.
abbrev pub FaultBy : Claim → List NamedCell → Bounds → Condition → NamedCell → Branch Segment → List ℕ → Type 0
FaultBy claim cells bounds condition.Arrivals from branch text = Strays cells branch text
FaultBy claim cells bounds condition.Ends from branch text = IsBadEnd claim branch text
FaultBy claim cells bounds condition.Ranks from branch text = Stalls bounds cells from branch text
FaultBy claim cells bounds other from branch text = ⊥
