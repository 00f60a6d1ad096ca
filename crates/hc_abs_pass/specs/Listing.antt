-- The branches of one round of a list of rules, as code has them.
use Rattle.std.specs.Prelude.{◌≡◌, ℕ, zero, suc, List, [], ◌∷◌, Bool, true, false, Option, codes}
use Rattle.hc_addr.specs.declared.addr.Addr.{Addr}
use Rattle.hc_dfa.specs.Automata.{Automaton}
use Rattle.hc_dfa.specs.Built.{Accepts}
use Rattle.hc_dfa.specs.Singles.{single}
use Rattle.hc_model.specs.declared.request.Caller.{Caller}
use Rattle.hc_model.specs.declared.rewrite.Rule.{Rule}
use Rattle.hc_plan.specs.Branches.{Branch}
use Rattle.hc_plan.specs.Coded.{AddsNext, AreBranches, AreNext, IsNext}
use Rattle.hc_plan.specs.Plan.{Plan, and_then, done}
use Rattle.hc_plan.specs.Slots.{Slot}
use Rattle.hc_plan.specs.States.{AbsState}
use Rattle.hc_plan.specs.Stores.{Stores}
use Rattle.hc_plan.specs.declared.storing.Tied.{Tied}
use Rattle.hc_rw_eval.specs.Lists.{skipped_chain, stops_run}
use Rattle.hc_abs_rw.specs.Applied.{next_of}
use Rattle.hc_abs_rw.specs.Attempts.{Attempted, attempt_plan}
use Rattle.hc_abs_rw.specs.Frames.{Frame}
use Rattle.hc_abs_rw.specs.Lists as lists
use Rattle.hc_abs_rw.specs.Lists.{again, answered, end_stored, list_plan, over, setting_of}
use Rattle.hc_abs_rw.specs.RuleBranches.{BranchFits, Rests}
use Rattle.hc_abs_rw.specs.Substitutions.{Then, goes_on}
use Rattle.hc_abs_rw.specs.declared.rule.RuleBranch.{RuleBranch}
use Rattle.hc_abs_pass.specs.declared.list.Listed.{Listed}
use Rattle.hc_abs_pass.specs.declared.list.Place.{Place}
use Rattle.hc_abs_pass.specs.declared.list.Place.TheVariants as at
use Rattle.hc_abs_pass.specs.declared.list.Placed.{Placed}
use Rattle.hc_abs_pass.specs.declared.list.SoFar.{SoFar}
use Rattle.hc_abs_pass.specs.declared.list.Stop.{Stop}
use Rattle.hc_abs_pass.specs.declared.list.Stop.TheVariants as stop

-- ---- ends

abbrev pub so_far_of : SoFar → lists.SoFar
so_far_of left =
    record { decisions = left.decisions; substituted = left.substituted; replaced = left.replaced }

abbrev pub stop_of : Caller → Stop → lists.Stop
stop_of caller (stop.Over passed) = over passed
stop_of caller (stop.Again rule) = again rule.now
stop_of caller (stop.Answered next) = answered (next_of caller next)

-- A branch of the list.
abbrev pub ListedFits : Option Addr → Caller → Listed → Branch lists.Listed → Type 0
ListedFits client caller listed branch = Rests client listed.tied branch.0
    × (branch.1 ≡ record { left = so_far_of listed.left; stop = stop_of caller listed.stop })

-- These are the branches of the list.
abbrev pub AreListed : Frame → Option Addr → List Rule → SoFar → Tied → List Listed → Type 0
AreListed frame client rules so_far before found = (state : AbsState) → Rests client before state
    → AreBranches (ListedFits client frame.caller) (list_plan frame 0 rules (so_far_of so_far)) state found

-- ---- on the way

-- Before the rules behind so many of the list, or at an end.
pub data Standing : Type 0 where
  before : ℕ → lists.SoFar → Standing
  left : lists.Listed → Standing

abbrev pub stopped_at : lists.SoFar → lists.Stop → Standing
stopped_at so_far end = left (record { left = so_far; stop = end })

abbrev pub standing_at : Caller → SoFar → Place → Standing
standing_at caller so_far (at.Before skipped) = before skipped (so_far_of so_far)
standing_at caller so_far (at.At end) = stopped_at (so_far_of so_far) (stop_of caller end)

abbrev pub placed_at : Tied → SoFar → Place → Placed
placed_at tied so_far place = record { tied = tied; left = so_far; place = place }

abbrev pub PlaceFits : Option Addr → Caller → Placed → Branch Standing → Type 0
PlaceFits client caller placed branch =
    Rests client placed.tied branch.0 × (branch.1 ≡ standing_at caller placed.left placed.place)

-- What is left of the list.
abbrev pub rest_plan : Frame → List Rule → Standing → Plan lists.Listed
rest_plan frame rules (before skipped so_far) = list_plan frame skipped rules so_far
rest_plan frame rules (left listed) = done listed

-- ---- behind a rule

-- By whether the rule stops the run, and whether it has N.
abbrev pub flagged_so : Rule → lists.SoFar → Bool → Bool → Plan Standing
flagged_so rule so_far true next = end_stored rule.flags.end (done (stopped_at so_far (over rule.flags.pass)))
flagged_so rule so_far false true = done (stopped_at so_far (again rule))
flagged_so rule so_far false false = done (before rule.flags.skip so_far)

abbrev pub flagged_plan : Rule → lists.SoFar → Plan Standing
flagged_plan rule so_far = flagged_so rule so_far (stops_run rule.flags) rule.flags.next

abbrev pub matched_plan : Rule → List Rule → Bool → lists.SoFar → Plan Standing
matched_plan rule rules matched so_far = elim matched [
  | true ↦ flagged_plan rule so_far
  | false ↦ done (before (skipped_chain rule rules) so_far)
]

abbrev pub unless_answered : lists.SoFar → Then → Plan Standing → Plan Standing
unless_answered so_far goes_on plan = plan
unless_answered so_far other plan = done (stopped_at so_far (answered other))

abbrev pub attempted_plan : Rule → List Rule → lists.SoFar → Attempted → Plan Standing
attempted_plan rule rules so_far attempted =
    unless_answered (lists.after so_far attempted) attempted.made.next
    (matched_plan rule rules attempted.matched (lists.after so_far attempted))

-- The first rule of what is left.
abbrev pub rule_plan : Frame → Rule → List Rule → Standing → Plan Standing
rule_plan frame rule rules (left listed) = done (left listed)
rule_plan frame rule rules (before (suc skipped) so_far) = done (before skipped so_far)
rule_plan frame rule rules (before zero so_far) =
    and_then (attempt_plan frame rule (setting_of rules) so_far.decisions) (attempted_plan rule rules so_far)

-- ---- what code finds

-- The slot that END has, where it is set.
abbrev pub HasEnd : Bool → Tied → Tied → Type 0
HasEnd false tied made = made ≡ tied
HasEnd true tied made =
    (set : Automaton) × Accepts set (single (codes "1"))
    × Stores tied.cell tied.ties (record { slot = Slot.End; set = set } ∷ []) made

-- The plan leads from there to this place alone.
abbrev pub LeadsTo : Plan Standing → Tied → Placed → Type 0
LeadsTo plan tied placed =
    (client : Option Addr) (caller : Caller) (state : AbsState) → Rests client tied state
    → AreBranches (PlaceFits client caller) plan state (placed ∷ [])

-- Where a branch of a rule stands, and where its branches stand.
abbrev pub IsPlaced : Rule → List Rule → SoFar → RuleBranch → Placed → Type 0
IsPlaced rule rules so_far branch placed =
    (client : Option Addr) (caller : Caller)
    → IsNext (BranchFits client caller) (PlaceFits client caller) (attempted_plan rule rules (so_far_of so_far))
    branch (placed ∷ [])

abbrev pub AreBehind : Rule → List Rule → SoFar → List RuleBranch → List Placed → Type 0
AreBehind rule rules so_far branches later =
    (client : Option Addr) (caller : Caller)
    → AreNext (BranchFits client caller) (PlaceFits client caller) (attempted_plan rule rules (so_far_of so_far))
    branches later

module _ (frame : Frame) (client : Option Addr) (rule : Rule) (rules : List Rule) where
  abbrev pub IsPast : Placed → List Placed → Type 0
  IsPast = IsNext (PlaceFits client frame.caller) (PlaceFits client frame.caller) (rule_plan frame rule rules)

  abbrev pub AddsPlaced : Placed → List Placed → List Placed → Type 0
  AddsPlaced = AddsNext (PlaceFits client frame.caller) (PlaceFits client frame.caller) (rule_plan frame rule rules)

  abbrev pub ArePast : List Placed → List Placed → Type 0
  ArePast = AreNext (PlaceFits client frame.caller) (PlaceFits client frame.caller) (rule_plan frame rule rules)

-- Where all rules were tried, the list is over.
abbrev pub stop_at : Place → Stop
stop_at (at.Before skipped) = stop.Over false
stop_at (at.At end) = end

abbrev pub ended_at : Placed → Listed
ended_at placed = record { tied = placed.tied; left = placed.left; stop = stop_at placed.place }
