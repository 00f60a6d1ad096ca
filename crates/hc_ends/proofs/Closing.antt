-- All ends of the chains of a scope, and the answer by them.
use Rattle.std.proofs.Common.{◌≡◌, ◌∙◌, inl, inr, ℕ, ◌+◌, ◌≤◌, List, [], ◌∷◌, ◌++◌, length, true, false, Option, Some}
use Rattle.std.proofs.Common.{None, IfOk, refl, sym, ap, subst, arith}
use Rattle.std.proofs.lemmas.Result.{IfOk-weaker}
use Rattle.std.specs.Prelude.{Result, Ok, Err, ⊤}
use Rattle.std.specs.declared.alloc.AllocError.{AllocError as NoMemory}
use Rattle.hc_base.specs.declared.fault.Fault.{Fault}
use Rattle.hc_base.specs.declared.fault.Fault.TheVariants.{Refused}
use Rattle.hc_follow.specs.declared.chain.TheConstants.{MOST_STEPS}
use Rattle.hc_named.specs.Named.{AreNames}
use Rattle.hc_named.specs.declared.names.Names.{Names}
use Rattle.hc_plan.specs.Coded.{AllFit}
use Rattle.hc_scope.specs.declared.claim.Scope.{Scope}
use Rattle.hc_steps.specs.Shown.{shown_by}
use Rattle.hc_abs_pass.specs.Walks.{IsListed}
use Rattle.hc_claim.specs.Asking.{rules_of}
use Rattle.hc_ends.specs.Asking.{Site, asked_at}
use Rattle.hc_ends.specs.Chains.{Before, ChainsIn, End, none_before}
use Rattle.hc_ends.specs.Deciding.{Answers, IsDecided, Runs, bad_of, most_runs}
use Rattle.hc_ends.specs.Finding.{AreBadEnds, BadFits, BeforeFits, Finds}
use Rattle.hc_ends.specs.Trying.{IsAnsweredIn, Spends}
use Rattle.hc_ends.specs.declared.decided.DecidedEnds.{DecidedEnds}
use Rattle.hc_ends.specs.declared.decided.DecidedEnds.TheVariants.{TooMany as Many}
use Rattle.hc_ends.specs.declared.finding.BadEnd.{BadEnd}
use Rattle.hc_ends.specs.declared.finding.Before.{Before as BeforeIn}
use Rattle.hc_ends.specs.declared.finding.Found.{Found}
use Rattle.hc_ends.specs.declared.finding.TooMany.{TooMany}
use Rattle.hc_ends.proofs.Tried.{answered_same}

-- ---- all ends

-- What is found behind what comes before.
abbrev pub FindsAll : Site → Scope → BeforeIn → Found → Found → Result ⊤ (Fault TooMany) → Type 0
FindsAll site scope own old new result = (levels : ℕ) (before : Before) → IsListed levels (shown_by site.world)
    → BeforeFits own before → Finds (λ cut. ChainsIn site cut levels MOST_STEPS scope before) old new result

module _ (site : Site) (scope : Scope) (own : BeforeIn) (begins : BeforeFits own none_before) (old new : Found) where
  pub too_many_ends : (halt : Fault TooMany) (many : TooMany) → halt ≡ Refused many
      → FindsAll site scope own old new (Err halt) → AreBadEnds site scope old.left None
  too_many_ends halt many is found levels listed =
      subst (λ halt. Finds (λ cut. ChainsIn site cut levels MOST_STEPS scope none_before) old new (Err halt)) is
      (found levels none_before listed begins)

  pub at_limit : (done : ⊤) → FindsAll site scope own old new (Ok done) → new.left ≡ 0
      → AreBadEnds site scope old.left None
  at_limit done found none levels listed =
      let all = found levels none_before listed begins true in (all.0, all.1, omega (arith, all.2.count, none))

  pub known_ends : (done : ⊤) → FindsAll site scope own old new (Ok done) → (new.left ≡ 0 → ⊥) → old.bad.items ≡ []
      → AreBadEnds site scope old.left (Some new.bad.items)
  known_ends done found some first levels listed =
      let all = found levels none_before listed begins false in
      let bad = all.2.bad ∙ ap (λ bad. bad ++ all.2.own) first in (
        all.0,
        all.1,
        omega (arith, all.2.count, some),
        subst (λ bad. AllFit BadFits bad (bad_of all.0)) (sym bad) all.2.fit,
      )

-- ---- the answer

as_many : {A B : Type 0} (Fit : A → B → Type 0) (xs : List A) (ys : List B) → AllFit Fit xs ys → length xs ≡ length ys
as_many Fit [] ys none = sym (ap length none)
as_many Fit (x ∷ xs) ys fit =
    let rest = as_many Fit xs fit.1 fit.4 in
    let all = ap length fit.2 in omega (arith, rest, all)

module _ (site : Site) (scope : Scope) (limit : ℕ) where
  pub many_decided : AreBadEnds site scope limit None → (levels : ℕ) → IsListed levels (shown_by site.world)
      → IsDecided site scope limit levels 0 (Many limit)
  many_decided found levels listed =
      let all = found levels listed in
      inl (record { ends = all.0; some = all.1; reached = all.2; is = refl; none = refl })

  module _ (bad : List BadEnd) (found : AreBadEnds site scope limit (Some bad)) (old new : ℕ)
      (spends : Spends old new (length bad)) where
    pub known_decided : (names : Names) → AreNames (rules_of (asked_at site scope)) names → (decided : DecidedEnds)
        → IsAnsweredIn site scope names.headers bad decided → Answers site scope limit old new decided
    known_decided names named decided answer = (
      spends.0,
      spends.1,
      λ levels listed. let all = found levels listed in inr (record {
        ends = all.0;
        all = all.1;
        fewer = all.2;
        names = names;
        named = named;
        answer = answered_same site scope names.headers bad (bad_of all.0) decided all.3 answer;
        most = subst (λ many. spends.0 ≤ most_runs many) (as_many BadFits bad (bad_of all.0) all.3) spends.2;
      }),
    )

    -- However it ended.
    pub may_run : Runs site scope old new
    may_run = (
      spends.0,
      spends.1,
      λ levels listed. let all = found levels listed in inr (record {
        ends = all.0;
        all = all.1;
        most = subst (λ many. spends.0 ≤ most_runs many) (as_many BadFits bad (bad_of all.0) all.3) spends.2;
      }),
    )
