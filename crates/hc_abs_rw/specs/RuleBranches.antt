-- The branches of a rule, as code has them.
use Rattle.std.specs.List.{sum_by}
use Rattle.std.specs.Prelude.{◌≡◌, ◌⊎◌, ℕ, List, [], ◌∷◌, ◌++◌, map, Bool, true, false, Option}
use Rattle.hc_addr.specs.Printed.{printed}
use Rattle.hc_addr.specs.declared.addr.Addr.{Addr}
use Rattle.hc_cells.specs.Cells.{Sets, states_in}
use Rattle.hc_model.specs.declared.event.Decision.{Decision}
use Rattle.hc_model.specs.declared.event.Decision.TheVariants as decision
use Rattle.hc_model.specs.declared.outcome.Outcome.{Outcome}
use Rattle.hc_model.specs.declared.outcome.Outcome.TheVariants as outcome
use Rattle.hc_model.specs.declared.outcome.Reason.TheVariants.{LongText}
use Rattle.hc_model.specs.declared.request.Caller.{Caller}
use Rattle.hc_model.specs.declared.rewrite.Rule.{Rule}
use Rattle.hc_plan.specs.Branches.{Branch, no_text}
use Rattle.hc_plan.specs.Coded.{AddsNext, AreBranches, AreNext}
use Rattle.hc_plan.specs.Cover.{Among, GivenIs, TiesHold}
use Rattle.hc_plan.specs.Hands.{cell_of}
use Rattle.hc_plan.specs.Running.{State}
use Rattle.hc_plan.specs.Slots.{Slot}
use Rattle.hc_plan.specs.States.{AbsState, this}
use Rattle.hc_plan.specs.Texts.{Key, all_three, pick}
use Rattle.hc_plan.specs.declared.storing.Tied.{Tied}
use Rattle.hc_rw_eval.specs.Attempts.{attempt}
use Rattle.hc_rw_eval.specs.declared.attempt.Rewritten.{Rewritten}
use Rattle.hc_rw_expand.specs.Contexts.{Context}
use Rattle.hc_rw_expand.specs.Lookups.{Looks}
use Rattle.hc_steps.specs.Run.{Run, is_over, run}
use Rattle.hc_steps.specs.Step.{Shown}
use Rattle.hc_abs_rw.specs.Applied.{made_of}
use Rattle.hc_abs_rw.specs.Attempts.{Attempted, attempt_plan, held_plan, tested_plan}
use Rattle.hc_abs_rw.specs.Frames.{Frame, frame_of}
use Rattle.hc_abs_rw.specs.Known.{client_given}
use Rattle.hc_abs_rw.specs.Looking.{LookedFits}
use Rattle.hc_abs_rw.specs.Standing.{Attempt, AttemptLike, Meets, decisions_in}
use Rattle.hc_abs_rw.specs.Substitutions.{Setting}
use Rattle.hc_abs_rw.specs.Trials.{TrialFits}
use Rattle.hc_abs_rw.specs.declared.apply.Applied.{Applied}
use Rattle.hc_abs_rw.specs.declared.apply.Made.{Made}
use Rattle.hc_abs_rw.specs.declared.apply.Next.TheVariants as next
use Rattle.hc_abs_rw.specs.declared.conds.Trial.{Trial}
use Rattle.hc_abs_rw.specs.declared.known.Known.{Known}
use Rattle.hc_abs_rw.specs.declared.pattern.Looked.{Looked}
use Rattle.hc_abs_rw.specs.declared.rule.RuleBranch.{RuleBranch}

-- ---- ends

-- Between rules nothing is held, and no text is in hand.
pub record Rests (client : Option Addr) (tied : Tied) (state : AbsState) : Type 0 where
  pub cell : state.cell ≡ cell_of tied.cell
  pub ties : state.ties ≡ tied.ties
  pub given : state.given ≡ all_three (λ at. this [])
  pub texts : state.texts ≡ all_three no_text
  pub printed : state.printed ≡ client_given client

-- What is left behind the decision of a rule.
abbrev pub branch_of : Tied → List Decision → Rule → Bool → Made → RuleBranch
branch_of tied so_far rule matched made = record {
  tied = tied;
  decisions = so_far ++ decision.Rule rule.place matched ∷ [];
  matched = matched;
  made = made;
}

abbrev pub unchanged : Made
unchanged = record { substituted = false; replaced = false; next = next.GoesOn }

abbrev pub unmatched : Tied → List Decision → Rule → RuleBranch
unmatched tied so_far rule = branch_of tied so_far rule false unchanged

abbrev pub matched : List Decision → Rule → List Applied → List RuleBranch
matched so_far rule ends = map (λ (end : Applied). branch_of end.tied so_far rule true end.made) ends

abbrev pub tied_in : Known → Tied
tied_in known = record { cell = known.cell; ties = known.ties }

abbrev pub end_of : Caller → RuleBranch → Attempted
end_of caller branch =
    record { decisions = branch.decisions; matched = branch.matched; made = made_of caller branch.made }

abbrev pub BranchFits : Option Addr → Caller → RuleBranch → Branch Attempted → Type 0
BranchFits client caller branch end = Rests client branch.tied end.0 × (end.1 ≡ end_of caller branch)

-- ---- what follows the steps of an attempt

module _ (frame : Frame) (client : Option Addr) (rule : Rule) (setting : Setting) where
  abbrev pub AddsPattern : List Decision → Looked → List RuleBranch → List RuleBranch → Type 0
  AddsPattern so_far =
      AddsNext (LookedFits client) (BranchFits client frame.caller) (held_plan frame rule setting so_far)

  abbrev pub AddsTested : Trial → List RuleBranch → List RuleBranch → Type 0
  AddsTested = AddsNext (TrialFits client) (BranchFits client frame.caller) (tested_plan frame rule setting)

  abbrev pub AreTested : List Trial → List RuleBranch → Type 0
  AreTested = AreNext (TrialFits client) (BranchFits client frame.caller) (tested_plan frame rule setting)

  -- These are the branches of the rule.
  abbrev pub AreRuleBranches : Tied → List Decision → List RuleBranch → Type 0
  AreRuleBranches before so_far found =
      (state : AbsState) → Rests client before state
      → AreBranches (BranchFits client frame.caller) (attempt_plan frame rule setting so_far) state found

-- How many states the cells have together of what is found.
abbrev pub states_of : {A : Type 0} → (A → Sets) → List A → ℕ
states_of cell found = sum_by (λ one. states_in (cell one)) found

-- ---- cover

-- The state of a request is one of these: each slot has a text of its set, tied slots are equal, and nothing is held.
pub record IsIn (client : Option Addr) (tied : Tied) (state : State) : Type 0 where
  pub slots : (slot : Slot) → cell_of tied.cell slot (state.slots slot) ≡ true
  pub ties : TiesHold state.slots tied.ties
  pub given : (key : Key) (at : ℕ) → pick state.given key at ≡ []
  pub texts : (key : Key) → pick state.texts key ≡ []
  pub printed : GivenIs (client_given client) (printed state.client)

-- A branch has the decisions and the end of the attempt, and what that leaves is one of its states.
abbrev pub HasItsBranch : Option Addr → Caller → Context → Bool → List Decision → Run Outcome Attempt
    → List RuleBranch → Type 0
HasItsBranch client caller context substituted so_far run found =
    (branch : RuleBranch) × (later : State) × Among branch found × IsIn client branch.tied later
    × AttemptLike context substituted so_far later (end_of caller branch) run.way (decisions_in run.events)

-- For each request that fits the frame, wherever rules have come to: its attempt has a branch, but where a text is too
-- long.
abbrev pub CoverAttempts : Frame → Option Addr → Rule → Setting → Tied → List Decision → List RuleBranch → Type 0
CoverAttempts frame client rule setting before so_far found =
    (context : Context) (looks : Looks) (shown : Shown) (rewritten : Rewritten) (state : State)
    → frame ≡ frame_of context looks shown → Meets context rewritten.state state → IsIn client before state
    → ((run (attempt context looks rule setting.followed rewritten) shown).way ≡ is_over (outcome.Outside LongText))
    ⊎ HasItsBranch client frame.caller context rewritten.substituted so_far
    (run (attempt context looks rule setting.followed rewritten) shown) found
