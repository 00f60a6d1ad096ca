-- What code finds for a rule are the branches of its plan, and they cover its attempts.
use Rattle.hc_abs_rw.proofs.Common.{◌≡◌, ◌∙◌, ◌⊎◌, ℕ, List, [], ◌∷◌, Bool, true, false, Option, refl, sym, ap, subst}
use Rattle.hc_abs_rw.proofs.Common.{inl, inr, Key, Run, State, is_over, pick, plan_run, run}
use Rattle.hc_addr.specs.Printed.{printed}
use Rattle.hc_addr.specs.declared.addr.Addr.{Addr}
use Rattle.hc_model.specs.declared.event.Decision.{Decision}
use Rattle.hc_model.specs.declared.outcome.Outcome.{Outcome}
use Rattle.hc_model.specs.declared.outcome.Outcome.TheVariants as outcome
use Rattle.hc_model.specs.declared.outcome.Reason.TheVariants.{LongText}
use Rattle.hc_model.specs.declared.request.Caller.{Caller}
use Rattle.hc_model.specs.declared.rewrite.Rule.{Rule}
use Rattle.hc_plan.proofs.Coded.{end_fits, joined_fits, let_go_fits, put_down_fits}
use Rattle.hc_plan.specs.Branches.{Branch, no_text, with_given, without_texts}
use Rattle.hc_plan.specs.Coded.{AllFit, AreBranches, AreNext, IsNext}
use Rattle.hc_plan.specs.Cover.{Among, Covers, GivenIs, IsMade, TiesHold}
use Rattle.hc_plan.specs.Hands.{cell_of}
use Rattle.hc_plan.specs.States.{AbsState, AbsText, Given, this}
use Rattle.hc_plan.specs.Texts.{Three, all_three, first_key, second_key, third_key}
use Rattle.hc_plan.specs.declared.storing.Tied.{Tied}
use Rattle.hc_rw_eval.specs.Attempts.{attempt}
use Rattle.hc_rw_eval.specs.Conditions.{or_groups}
use Rattle.hc_abs_rw.specs.Applied.{AppliedFits, AreApplied, TiedFits, made_of}
use Rattle.hc_abs_rw.specs.Attempts.{Attempted, attempt_plan, ended_with, held_plan, pattern_plan, tested_plan}
use Rattle.hc_abs_rw.specs.Conditions.{Tried, conds_plan, tried}
use Rattle.hc_abs_rw.specs.Frames.{Frame}
use Rattle.hc_abs_rw.specs.Known.{Fits, client_given}
use Rattle.hc_abs_rw.specs.Laws.{BranchLike}
use Rattle.hc_abs_rw.specs.Looking.{AreLooked, LookedFits}
use Rattle.hc_abs_rw.specs.RuleBranches.{AreRuleBranches, BranchFits, CoverAttempts, HasItsBranch, IsIn, Rests, branch_of}
use Rattle.hc_abs_rw.specs.RuleBranches.{matched, tied_in, unchanged, unmatched}
use Rattle.hc_abs_rw.specs.Standing.{Attempt, AttemptLike, Like, decisions_in}
use Rattle.hc_abs_rw.specs.Substitutions.{Setting, applied_plan}
use Rattle.hc_abs_rw.specs.Templates.{cond_groups, groups}
use Rattle.hc_abs_rw.specs.Trials.{IsTriedBy, TrialFits}
use Rattle.hc_abs_rw.specs.declared.apply.Applied.{Applied}
use Rattle.hc_abs_rw.specs.declared.apply.Made.{Made}
use Rattle.hc_abs_rw.specs.declared.conds.Trial.{Trial}
use Rattle.hc_abs_rw.specs.declared.known.Known.{Known}
use Rattle.hc_abs_rw.specs.declared.pattern.Looked.{Looked}
use Rattle.hc_abs_rw.specs.declared.rule.RuleBranch.{RuleBranch}
use Rattle.hc_abs_rw.proofs.Attempts.{attempt_like}
use Rattle.hc_abs_rw.proofs.Covering.{has_branch}

-- ---- ends

abbrev nothing : ℕ → Given
nothing at = this []

-- Nothing is held any more, and no text is in hand.
abbrev at_rest : AbsState → AbsState
at_rest state = with_given (with_given (without_texts state) groups nothing) cond_groups nothing

module _ (client : Option Addr) (caller : Caller) (rule : Rule) where
  abbrev Fit : RuleBranch → Branch Attempted → Type 0
  Fit = BranchFits client caller

  pub ended_fits : (tied : Tied) (so_far : List Decision) (matched : Bool) (made : Made) (state : AbsState)
      → TiedFits client tied state
      → AreBranches Fit (ended_with so_far rule matched (made_of caller made)) state
      (branch_of tied so_far rule matched made ∷ [])
  ended_fits tied so_far matched made state fits =
      let one = branch_of tied so_far rule matched made ∷ [] in
      put_down_fits Fit state _ one
      (let_go_fits Fit (without_texts state) groups _ one
      (let_go_fits Fit (with_given (without_texts state) groups nothing) cond_groups _ one
      (end_fits Fit (at_rest state) _ (branch_of tied so_far rule matched made) (
        record {
          cell = fits.cell;
          ties = fits.ties;
          given = ap (λ third. record { first = nothing; second = nothing; third = third }) fits.looked;
          texts = refl;
          printed = fits.printed;
        },
        refl,
      ))))

-- What is known fits where groups are not looked at any more.
tied_fits : (client : Option Addr) (known : Known) (state : AbsState) → Fits client known state
    → TiedFits client (tied_in known) state
tied_fits client known state fits =
    record { cell = fits.cell; ties = fits.ties; looked = fits.looked; printed = fits.holds.printed }

-- ---- what follows the steps of an attempt

module _ (frame : Frame) (client : Option Addr) (rule : Rule) (setting : Setting) where
  abbrev IsEnd : RuleBranch → Branch Attempted → Type 0
  IsEnd = BranchFits client frame.caller

  -- Where the pattern doesn't hold, or the conditions don't.
  pub pattern_failed : (so_far : List Decision) (looked : Looked) → looked.holds ≡ false
      → IsNext (LookedFits client) IsEnd (held_plan frame rule setting so_far) looked
      (unmatched (tied_in looked.known) so_far rule ∷ [])
  pattern_failed so_far looked is = λ end fits.
      subst (λ plan. AreBranches IsEnd plan end.0 (unmatched (tied_in looked.known) so_far rule ∷ []))
      (sym (ap (held_plan frame rule setting so_far) (fits.holds ∙ is)))
      (ended_fits client frame.caller rule (tied_in looked.known) so_far false unchanged end.0
      (tied_fits client looked.known end.0 fits.known))

  tried_is : (trial : Trial) (end : Branch Tried) (held : Bool) → trial.holds ≡ held → TrialFits client trial end
      → end.1 ≡ tried trial.decisions held
  tried_is trial end held is fits =
      λ i. record { decisions = fits.decisions i; holds = (fits.holds ∙ is) i }

  pub conds_failed : (trial : Trial) → trial.holds ≡ false
      → IsNext (TrialFits client) IsEnd (tested_plan frame rule setting) trial
      (unmatched (tied_in trial.known) trial.decisions rule ∷ [])
  conds_failed trial is = λ end fits.
      subst (λ plan. AreBranches IsEnd plan end.0 (unmatched (tied_in trial.known) trial.decisions rule ∷ []))
      (sym (ap (tested_plan frame rule setting) (tried_is trial end false is fits)))
      (ended_fits client frame.caller rule (tied_in trial.known) trial.decisions false unchanged end.0
      (tied_fits client trial.known end.0 fits.known))

  -- Where they hold, the decision of the rule stands behind what it does.
  each_end : (so_far : List Decision) (ends : List Applied)
      → AreNext (AppliedFits client frame.caller) IsEnd (ended_with so_far rule true) ends (matched so_far rule ends)
  each_end so_far [] = refl
  each_end so_far (end ∷ ends) =
      let one = branch_of end.tied so_far rule true end.made in (
        one ∷ [],
        matched so_far rule ends,
        refl,
        (λ branch fits. subst (λ made. AreBranches IsEnd (ended_with so_far rule true made) branch.0 (one ∷ []))
            (sym fits.made)
            (ended_fits client frame.caller rule end.tied so_far true end.made branch.0 fits.known)),
        each_end so_far ends,
      )

  pub conds_held : (trial : Trial) (ends : List Applied) → trial.holds ≡ true
      → AreApplied frame client rule setting trial.known ends
      → IsNext (TrialFits client) IsEnd (tested_plan frame rule setting) trial (matched trial.decisions rule ends)
  conds_held trial ends is applied = λ end fits.
      subst (λ plan. AreBranches IsEnd plan end.0 (matched trial.decisions rule ends))
      (sym (ap (tested_plan frame rule setting) (tried_is trial end true is fits)))
      (joined_fits (AppliedFits client frame.caller) IsEnd (ended_with trial.decisions rule true)
      (applied_plan frame rule setting) end.0 ends (matched trial.decisions rule ends) (applied end.0 fits.known)
      (each_end trial.decisions ends))

  pub pattern_held : (so_far : List Decision) (looked : Looked) (trial : Trial) (trials : List Trial)
      (found : List RuleBranch) → looked.holds ≡ true → trial.known ≡ looked.known → trial.decisions ≡ so_far
      → IsTriedBy client (λ so_far. conds_plan frame so_far (or_groups rule.conds)) trial trials
      → AreNext (TrialFits client) IsEnd (tested_plan frame rule setting) trials found
      → IsNext (LookedFits client) IsEnd (held_plan frame rule setting so_far) looked found
  pattern_held so_far looked trial trials found is known decisions tries more = λ end fits.
      subst (λ plan. AreBranches IsEnd plan end.0 found)
      (sym (ap (held_plan frame rule setting so_far) (fits.holds ∙ is)))
      (joined_fits (TrialFits client) IsEnd (tested_plan frame rule setting)
      (conds_plan frame so_far (or_groups rule.conds)) end.0 trials found
      (tries (end.0, tried so_far trial.holds) (record {
        known = subst (λ known. Fits client known end.0) (sym known) fits.known;
        decisions = sym decisions;
        holds = refl;
      }))
      more)

  -- ---- the branches of an attempt

  pub attempt_found : (tied : Tied) (so_far : List Decision) (looked : List Looked) (found : List RuleBranch)
      → AreLooked frame client rule tied.cell tied.ties looked
      → AreNext (LookedFits client) IsEnd (held_plan frame rule setting so_far) looked found
      → AreRuleBranches frame client rule setting tied so_far found
  unfolding attempt_plan
  attempt_found tied so_far looked found are more state rests =
      let first = with_given state groups nothing in
      let both = with_given first cond_groups nothing in
      let_go_fits IsEnd state groups _ found
      (let_go_fits IsEnd first cond_groups _ found
      (joined_fits (LookedFits client) IsEnd (held_plan frame rule setting so_far) (pattern_plan frame rule) both looked
      found
      (are both rests.cell rests.ties (record {
        given =
            ap (λ given. record { first = nothing; second = nothing; third = given.third }) rests.given;
        printed = rests.printed;
      }))
      more))

-- ---- cover

-- The states of code, as plans have them.
abbrev resting : Option Addr → Tied → AbsState
resting client tied = record {
  cell = cell_of tied.cell;
  ties = tied.ties;
  given = all_three nothing;
  texts = all_three no_text;
  clients = λ address. true;
  printed = client_given client;
}

-- One thing under all keys.
same_pick : {V : Type 0} (value : V) (key : Key) → pick (all_three value) key ≡ value
same_pick value first_key = refl
same_pick value second_key = refl
same_pick value third_key = refl

is_in_covers : (client : Option Addr) (tied : Tied) (state : State) → IsIn client tied state
    → Covers (resting client tied) state
is_in_covers client tied state is = record {
  slots = is.slots;
  ties = is.ties;
  given = λ key at. subst (λ (given : ℕ → Given). GivenIs (given at) (pick state.given key at))
      (sym (same_pick nothing key)) (is.given key at);
  texts = λ key. subst (λ own. IsMade state.slots own (pick state.texts key)) (sym (same_pick no_text key))
      ([], refl, refl, is.texts key);
  clients = refl;
  printed = is.printed;
}

covers_is_in : (client : Option Addr) (tied : Tied) (known : AbsState) (state : State) → Rests client tied known
    → Covers known state → IsIn client tied state
covers_is_in client tied known state rests covers = record {
  slots = λ slot. subst (λ cell. cell slot (state.slots slot) ≡ true) rests.cell (covers.slots slot);
  ties = subst (TiesHold state.slots) rests.ties covers.ties;
  given = λ key at. subst (λ (given : ℕ → Given). GivenIs (given at) (pick state.given key at))
      (ap (λ (given : Three (ℕ → Given)). pick given key) rests.given ∙ same_pick nothing key) (covers.given key at);
  texts = λ key.
      let made = subst (λ own. IsMade state.slots own (pick state.texts key))
      (ap (λ (texts : Three AbsText). pick texts key) rests.texts ∙ same_pick no_text key) (covers.texts key) in
      made.3 ∙ made.1;
  printed = subst (λ given. GivenIs given (printed state.client)) rests.printed covers.printed;
}

-- What fits one for one is among the others.
among_fit : {B C : Type 0} (R : B → C → Type 0) (bs : List B) (cs : List C) (c : C) → AllFit R bs cs → Among c cs
    → (b : B) × Among b bs × R b c
among_fit R [] cs c fit among = absurd (subst (Among c) fit among)
among_fit R (b ∷ bs) cs c fit among =
    elim (subst (Among c) fit.2 among) [
      | inl same ↦ (b, inl refl, subst (R b) (sym same) fit.3)
      | inr later ↦ let one = among_fit R bs fit.1 c fit.4 later in (one.0, inr one.1, one.2)
    ]

pub attempts_covered : (frame : Frame) (client : Option Addr) (rule : Rule) (setting : Setting) (tied : Tied)
    (so_far : List Decision) (found : List RuleBranch) → AreRuleBranches frame client rule setting tied so_far found
    → CoverAttempts frame client rule setting tied so_far found
attempts_covered frame client rule setting tied so_far found are context looks shown rewritten state same meets is =
    by (has_branch (AttemptLike context rewritten.substituted so_far) _ ran (resting client tied) state all.0
    (is_in_covers client tied state is) all.1
    (subst (λ frame. Like (AttemptLike context rewritten.substituted so_far)
    (plan_run (attempt_plan frame rule setting so_far) state) ran) (sym same)
    (attempt_like context looks shown rule setting rewritten so_far state meets)))
  where
    ran : Run Outcome Attempt
    ran = run (attempt context looks rule setting.followed rewritten) shown

    all : AreBranches (BranchFits client frame.caller) (attempt_plan frame rule setting so_far) (resting client tied) found
    all = are (resting client tied)
        (record { cell = refl; ties = refl; given = refl; texts = refl; printed = refl })

    by : BranchLike (AttemptLike context rewritten.substituted so_far) ran all.0
        → (ran.way ≡ is_over (outcome.Outside LongText))
        ⊎ HasItsBranch client frame.caller context rewritten.substituted so_far ran found
    by (inl long) = inl long
    by (inr covered) =
        let one = among_fit (BranchFits client frame.caller) found all.0 (covered.0, covered.2) all.2 covered.3 in
        inr (
          one.0,
          covered.1,
          one.1,
          covers_is_in client (one.0).tied covered.0 covered.1 one.2.0 covered.4,
          subst (λ end. AttemptLike context rewritten.substituted so_far covered.1 end ran.way (decisions_in ran.events))
              one.2.1 covered.5,
        )
