-- Stages one after another, each tried in what the ones before it left: the members of a group, and groups.
use Rattle.hc_abs_rw.proofs.Common.{◌≡◌, ◌∙◌, List, [], ◌∷◌, ◌++◌, Bool, Option, refl, sym, ap, subst, Plan, done, ◌⊎◌}
use Rattle.hc_abs_rw.proofs.Common.{inl, inr, append-nil, true, false, arith, length, ◌<◌, ◌==◌}
use Rattle.hc_addr.specs.declared.addr.Addr.{Addr}
use Rattle.hc_model.specs.declared.event.Decision.{Decision}
use Rattle.hc_plan.proofs.Coded.{next_ends, next_joined}
use Rattle.hc_plan.specs.Branches.{Branch}
use Rattle.hc_plan.specs.Coded.{AreBranches, AreNext, IsNext}
use Rattle.hc_plan.specs.Plan.{and_then}
use Rattle.hc_abs_rw.specs.Conditions.{Tried, cond_plan, conds_plan, group_plan, tried, unless_held, while_held}
use Rattle.hc_abs_rw.specs.Frames.{Frame}
use Rattle.hc_abs_rw.specs.Known.{Fits}
use Rattle.hc_abs_rw.specs.Trials.{TrialFits}
use Rattle.hc_abs_rw.specs.declared.conds.Trial.{Trial}
use Rattle.hc_model.specs.declared.rewrite.Cond.{Cond}

-- Whether what was tried so far stands, or the next stage follows.
abbrev Further : Type 0
Further = (List Decision → Plan Tried) → Tried → Plan Tried

module _ (client : Option Addr) {T : Type 0} (on : Further) (held : Bool) (stage : List Decision → T → Plan Tried)
    (from : List Decision → List T → Plan Tried)
    (opens : (further : List Decision → Plan Tried) (decisions : List Decision)
    → on further (tried decisions held) ≡ further decisions)
    (cases : (so_far : Tried) → ((further : List Decision → Plan Tried) → on further so_far ≡ done so_far)
    ⊎ (so_far ≡ tried so_far.decisions held))
    (none : (decisions : List Decision) → from decisions [] ≡ done (tried decisions held))
    (more : (decisions : List Decision) (x : T) (xs : List T)
    → from decisions (x ∷ xs) ≡ and_then (stage decisions x) (on (λ so_far. from so_far xs))) where
  abbrev Fit : Trial → Branch Tried → Type 0
  Fit = TrialFits client

  abbrev staged : T → Tried → Plan Tried
  staged x = on (λ so_far. stage so_far x)

  abbrev from_here : List T → Tried → Plan Tried
  from_here xs = on (λ so_far. from so_far xs)

  goes_on : (further : List Decision → Plan Tried) (so_far : Tried) → so_far ≡ tried so_far.decisions held
      → on further so_far ≡ further so_far.decisions
  goes_on further so_far is = ap (on further) is ∙ opens further so_far.decisions

  in_turn : (x : T) (xs : List T) (so_far : Tried)
      → and_then (staged x so_far) (from_here xs) ≡ from_here (x ∷ xs) so_far
  unfolding and_then
  in_turn x xs so_far = by (cases so_far)
    where
      by : ((further : List Decision → Plan Tried) → on further so_far ≡ done so_far)
          ⊎ (so_far ≡ tried so_far.decisions held)
          → and_then (staged x so_far) (from_here xs) ≡ from_here (x ∷ xs) so_far
      by (inl stays) =
          ap (λ plan. and_then plan (from_here xs)) (stays (λ so_far. stage so_far x))
          ∙ stays (λ so_far. from so_far xs) ∙ sym (stays (λ so_far. from so_far (x ∷ xs)))
      by (inr is) =
          ap (λ plan. and_then plan (from_here xs)) (goes_on (λ so_far. stage so_far x) so_far is)
          ∙ sym (more so_far.decisions x xs) ∙ sym (goes_on (λ so_far. from so_far (x ∷ xs)) so_far is)

  at_end : (so_far : Tried) → from_here [] so_far ≡ done so_far
  at_end so_far = by (cases so_far)
    where
      by : ((further : List Decision → Plan Tried) → on further so_far ≡ done so_far)
          ⊎ (so_far ≡ tried so_far.decisions held) → from_here [] so_far ≡ done so_far
      by (inl stays) = stays (λ so_far. from so_far [])
      by (inr is) = goes_on (λ so_far. from so_far []) so_far is ∙ none so_far.decisions ∙ ap done (sym is)

  pub chain_more : (x : T) (xs : List T) (trials later found : List Trial) → AreNext Fit Fit (staged x) trials later
      → AreNext Fit Fit (from_here xs) later found → AreNext Fit Fit (from_here (x ∷ xs)) trials found
  chain_more x xs trials later found =
      next_joined Fit Fit Fit (staged x) (from_here xs) (from_here (x ∷ xs)) (in_turn x xs) trials later found

  pub chain_ends : (trials : List Trial) → AreNext Fit Fit (from_here []) trials trials
  chain_ends trials = next_ends Fit (from_here []) trials at_end

  -- The first stage begins with what was known before it.
  pub chain_begins : (trial begun : Trial) (xs : List T) (found : List Trial) → begun.known ≡ trial.known
      → begun.decisions ≡ trial.decisions → begun.holds ≡ held → AreNext Fit Fit (from_here xs) (begun ∷ []) found
      → IsNext Fit Fit (λ so_far. from so_far.decisions xs) trial found
  chain_begins trial begun xs found known decisions holds are = λ branch fits.
      subst (λ found. AreBranches Fit (from branch.1.decisions xs) branch.0 found)
      (sym (are.2 ∙ ap (λ rest. are.0 ++ rest) are.4 ∙ append-nil are.0))
      (subst (λ plan. AreBranches Fit plan branch.0 are.0) (opens (λ so_far. from so_far xs) branch.1.decisions)
      (are.3 (branch.0, tried branch.1.decisions held) (record {
        known = subst (λ known. Fits client known branch.0) (sym known) fits.known;
        decisions = fits.decisions ∙ sym decisions;
        holds = sym holds;
      })))

-- ---- groups of conditions, and their members

unless_cases : (so_far : Tried) → ((further : List Decision → Plan Tried) → unless_held further so_far ≡ done so_far)
    ⊎ (so_far ≡ tried so_far.decisions false)
unless_cases so_far = by so_far.holds refl
  where
    by : (held : Bool) → so_far.holds ≡ held
        → ((further : List Decision → Plan Tried) → unless_held further so_far ≡ done so_far)
        ⊎ (so_far ≡ tried so_far.decisions false)
    by true is = inl (λ further. ap (λ held. elim held [ true ↦ done so_far | false ↦ further so_far.decisions ]) is)
    by false is = inr (ap (tried so_far.decisions) is)

while_cases : (so_far : Tried) → ((further : List Decision → Plan Tried) → while_held further so_far ≡ done so_far)
    ⊎ (so_far ≡ tried so_far.decisions true)
while_cases so_far = by so_far.holds refl
  where
    by : (held : Bool) → so_far.holds ≡ held
        → ((further : List Decision → Plan Tried) → while_held further so_far ≡ done so_far)
        ⊎ (so_far ≡ tried so_far.decisions true)
    by true is = inr (ap (tried so_far.decisions) is)
    by false is = inl (λ further. ap (λ held. elim held [ true ↦ further so_far.decisions | false ↦ done so_far ]) is)

module _ (client : Option Addr) (frame : Frame) where
  group_none : (decisions : List Decision) → group_plan frame decisions [] ≡ done (tried decisions false)
  unfolding group_plan
  group_none decisions = refl

  group_more : (decisions : List Decision) (cond : Cond) (conds : List Cond)
      → group_plan frame decisions (cond ∷ conds)
      ≡ and_then (cond_plan frame decisions cond) (unless_held (λ so_far. group_plan frame so_far conds))
  unfolding group_plan
  group_more decisions cond conds = refl

  conds_none : (decisions : List Decision) → conds_plan frame decisions [] ≡ done (tried decisions true)
  unfolding conds_plan
  conds_none decisions = refl

  conds_more : (decisions : List Decision) (group : List Cond) (groups : List (List Cond))
      → conds_plan frame decisions (group ∷ groups)
      ≡ and_then (group_plan frame decisions group) (while_held (λ so_far. conds_plan frame so_far groups))
  unfolding conds_plan
  conds_more decisions group groups = refl

  -- What is left of a group, and of the groups.
  abbrev pub InGroup : List Cond → List Trial → List Trial → Type 0
  InGroup conds = AreNext (TrialFits client) (TrialFits client) (unless_held (λ so_far. group_plan frame so_far conds))

  abbrev pub InGroups : List (List Cond) → List Trial → List Trial → Type 0
  InGroups groups = AreNext (TrialFits client) (TrialFits client) (while_held (λ so_far. conds_plan frame so_far groups))

  pub group_goes_on : (cond : Cond) (conds : List Cond) (trials later found : List Trial)
      → AreNext (TrialFits client) (TrialFits client) (unless_held (λ so_far. cond_plan frame so_far cond)) trials later
      → InGroup conds later found → InGroup (cond ∷ conds) trials found
  group_goes_on =
      chain_more client unless_held false (cond_plan frame) (group_plan frame) (λ further decisions. refl) unless_cases
      group_none group_more

  pub group_ends : (trials : List Trial) → InGroup [] trials trials
  group_ends =
      chain_ends client unless_held false (cond_plan frame) (group_plan frame) (λ further decisions. refl) unless_cases
      group_none group_more

  pub group_begins : (trial begun : Trial) (conds : List Cond) (found : List Trial) → begun.known ≡ trial.known
      → begun.decisions ≡ trial.decisions → begun.holds ≡ false → InGroup conds (begun ∷ []) found
      → IsNext (TrialFits client) (TrialFits client) (λ so_far. group_plan frame so_far.decisions conds) trial found
  group_begins =
      chain_begins client unless_held false (cond_plan frame) (group_plan frame) (λ further decisions. refl) unless_cases
      group_none group_more

  pub groups_go_on : (group : List Cond) (groups : List (List Cond)) (trials later found : List Trial)
      → AreNext (TrialFits client) (TrialFits client) (while_held (λ so_far. group_plan frame so_far group)) trials later
      → InGroups groups later found → InGroups (group ∷ groups) trials found
  groups_go_on =
      chain_more client while_held true (group_plan frame) (conds_plan frame) (λ further decisions. refl) while_cases
      conds_none conds_more

  pub groups_end : (trials : List Trial) → InGroups [] trials trials
  groups_end =
      chain_ends client while_held true (group_plan frame) (conds_plan frame) (λ further decisions. refl) while_cases
      conds_none conds_more

  pub groups_begin : (trial begun : Trial) (groups : List (List Cond)) (found : List Trial) → begun.known ≡ trial.known
      → begun.decisions ≡ trial.decisions → begun.holds ≡ true → InGroups groups (begun ∷ []) found
      → IsNext (TrialFits client) (TrialFits client) (λ so_far. conds_plan frame so_far.decisions groups) trial found
  groups_begin =
      chain_begins client while_held true (group_plan frame) (conds_plan frame) (λ further decisions. refl) while_cases
      conds_none conds_more

pub some_left : {X : Type 0} (xs : List X) → (length xs == 0) ≡ false → 0 < length xs
some_left [] is = absurd (let none = is in cc)
some_left (x ∷ xs) is = omega arith
