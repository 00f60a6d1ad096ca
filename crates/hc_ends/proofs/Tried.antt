-- Which candidates are followed, one after another.
use Rattle.std.proofs.Common.{◌≡◌, ◌∙◌, ℕ, ◌+◌, ◌-◌, ◌≤◌, List, [], ◌∷◌, length, Bool, true, false, Option, Some, None}
use Rattle.std.proofs.Common.{refl, sym, ap, subst, arith}
use Rattle.std.specs.List.{find}
use Rattle.std.specs.Prelude.{cond}
use Rattle.hc_candidates.specs.Candidates.{AreCandidates}
use Rattle.hc_candidates.specs.declared.picking.TheConstants.{MOST_CANDIDATES}
use Rattle.hc_follow.specs.declared.chain.TheConstants.{MOST_STEPS}
use Rattle.hc_model.specs.declared.request.Request.{Request}
use Rattle.hc_plan.specs.Coded.{AllFit}
use Rattle.hc_scope.specs.declared.claim.Scope.{Scope}
use Rattle.hc_claim.specs.Deciding.{OrElse}
use Rattle.hc_ends.specs.Asking.{Site}
use Rattle.hc_ends.specs.Breaking.{is_broken}
use Rattle.hc_ends.specs.Chains.{End}
use Rattle.hc_ends.specs.Deciding.{IsAnswered, IsFirst, IsShown, most_runs}
use Rattle.hc_ends.specs.Finding.{BadFits}
use Rattle.hc_ends.specs.Trying.{IsAnsweredIn, IsFirstIn, Spends, Tries}
use Rattle.hc_ends.specs.declared.decided.DecidedEnds.{DecidedEnds}
use Rattle.hc_ends.specs.declared.finding.BadEnd.{BadEnd}

-- ---- how many there are

pub tries_more : (old mid new at : ℕ) → Tries old mid at → mid ≤ new → new ≤ mid + 21 → Tries old new (at + 1)
tries_more old mid new at before grows most =
    (before.0 + (new - mid), omega (arith, before.1, grows), omega (arith, before.2, grows, most))

pub tries_within : (old new at all : ℕ) → Tries old new at → at ≤ all → Tries old new all
tries_within old new at all tries within = (tries.0, tries.1, omega (arith, tries.2, within))

pub spends_more : (old mid new at : ℕ) (own : List Request) → Spends old mid at → Tries mid new (length own)
    → length own ≤ MOST_CANDIDATES → Spends old new (at + 1)
spends_more old mid new at own before tries few =
    (before.0 + tries.0, omega (arith, before.1, tries.1), omega (arith, before.2, tries.2, few))

pub spends_within : (old new at all : ℕ) → Spends old new at → at ≤ all → Spends old new all
spends_within old new at all spends within = (spends.0, spends.1, omega (arith, spends.2, within))

-- ---- one after another

module _ (site : Site) where
  -- A request whose chain ends is passed over.
  pub passed_over : (request : Request) (requests : List Request) → is_broken site request ≡ false
      → find (is_broken site) (request ∷ requests) ≡ find (is_broken site) requests
  passed_over request requests is = ap (λ is. cond is (Some request) (find (is_broken site) requests)) is

  pub found_here : (request : Request) (requests : List Request) → is_broken site request ≡ true
      → find (is_broken site) (request ∷ requests) ≡ Some request
  found_here request requests is = ap (λ is. cond is (Some request) (find (is_broken site) requests)) is

  module _ (scope : Scope) (headers : List (List ℕ)) (end : BadEnd) (ends : List BadEnd) (own : List Request)
      (are : AreCandidates scope headers end.first own) where
    -- An end of whose candidates none breaks the claim is passed over.
    pub end_over : (found : Option Request) → find (is_broken site) own ≡ None
        → IsFirstIn site scope headers ends found → IsFirstIn site scope headers (end ∷ ends) found
    end_over found none later =
        (own, are, subst (λ first. OrElse (IsFirstIn site scope headers ends) first found) (sym none) later)

    pub end_shows : (request : Request) → find (is_broken site) own ≡ Some request
        → IsFirstIn site scope headers (end ∷ ends) (Some request)
    end_shows request is =
        (own, are, subst (λ first. OrElse (IsFirstIn site scope headers ends) first (Some request)) (sym is) refl)

-- ---- ends as code has them

or_else : (One Other : Option Request → Type 0) (first found : Option Request) → (One found → Other found)
    → OrElse One first found → OrElse Other first found
or_else One Other (Some request) found later is = is
or_else One Other None found later is = later is

module _ (site : Site) (scope : Scope) (headers : List (List ℕ)) where
  first_same : (bad : List BadEnd) (ends : List End) (found : Option Request) → AllFit BadFits bad ends
      → IsFirstIn site scope headers bad found → IsFirst site scope headers ends found
  first_same [] ends found none is = subst (λ ends. IsFirst site scope headers ends found) (sym none) is
  first_same (own ∷ bad) ends found fit is =
      subst (λ ends. IsFirst site scope headers ends found) (sym fit.2) (
        is.0,
        (own.first, (fit.3).cell, is.1),
        or_else (IsFirstIn site scope headers bad) (IsFirst site scope headers fit.1) (find (is_broken site) is.0) found
            (first_same bad fit.1 found fit.4) is.2,
      )

  pub answered_same : (bad : List BadEnd) (ends : List End) (decided : DecidedEnds) → AllFit BadFits bad ends
      → IsAnsweredIn site scope headers bad decided → IsAnswered site scope headers ends decided
  answered_same [] ends decided none is = subst (λ ends. IsAnswered site scope headers ends decided) (sym none) is
  answered_same (own ∷ bad) ends decided fit is =
      subst (λ ends. IsAnswered site scope headers ends decided) (sym fit.2) (
        is.0,
        subst (λ ends. IsFirst site scope headers ends is.0) fit.2 (first_same (own ∷ bad) ends is.0 fit is.1),
        subst (λ branch. IsShown site scope branch is.0 decided) (sym (fit.3).decisions) is.2,
      )
