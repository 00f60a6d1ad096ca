-- The answer to the claim that each chain ends. Our own choice.
use Rattle.std.specs.Prelude.{◌≡◌, ◌⊎◌, ◌≤◌, ◌<◌, ℕ, ◌+◌, ◌*◌, List, [], ◌∷◌, length, Option, None, Some, filter}
use Rattle.std.specs.List.{find}
use Rattle.hc_cells.specs.Cells.{Sets}
use Rattle.hc_candidates.specs.Candidates.{AreCandidates}
use Rattle.hc_candidates.specs.declared.picking.TheConstants.{MOST_CANDIDATES}
use Rattle.hc_follow.specs.Chains.{IsChain}
use Rattle.hc_follow.specs.declared.chain.Chain.{Chain}
use Rattle.hc_follow.specs.declared.chain.TheConstants.{MOST_STEPS}
use Rattle.hc_model.specs.declared.event.Decision.{Decision}
use Rattle.hc_model.specs.declared.request.Request.{Request}
use Rattle.hc_named.specs.Named.{AreNames}
use Rattle.hc_named.specs.declared.names.Names.{Names}
use Rattle.hc_plan.specs.Hands.{cell_of}
use Rattle.hc_scope.specs.declared.claim.Scope.{Scope}
use Rattle.hc_steps.specs.Shown.{shown_by}
use Rattle.hc_abs_pass.specs.Walks.{IsListed}
use Rattle.hc_claim.specs.Asking.{rules_of}
use Rattle.hc_claim.specs.Deciding.{AreTriedAt, OrElse}
use Rattle.hc_ends.specs.Asking.{Site, asked_at}
use Rattle.hc_ends.specs.Breaking.{is_broken}
use Rattle.hc_ends.specs.Chains.{AreEnds, AreSomeEnds, End}
use Rattle.hc_ends.specs.declared.decided.DecidedEnds.{DecidedEnds}
use Rattle.hc_ends.specs.declared.decided.DecidedEnds.TheVariants.{Proved, Refuted, TooMany, Undecided}

-- The ends at which the claim may be broken, in order.
abbrev pub bad_of : List End → List End
bad_of ends = filter (λ end. end.bad) ends

-- How many requests are evaluated for so many of them at most: each candidate is followed.
abbrev pub most_runs : ℕ → ℕ
most_runs bad = MOST_CANDIDATES * (MOST_STEPS + 1) * bad

module _ (site : Site) (scope : Scope) where
  -- Bad ends are taken in order, and of each the candidates of the first request's end.
  abbrev pub IsFirst : List (List ℕ) → List End → Option Request → Type 0
  IsFirst headers [] found = found ≡ None
  IsFirst headers (end ∷ ends) found = (own : List Request) × AreTriedAt scope headers end.first own
      × OrElse (IsFirst headers ends) (find (is_broken site) own) found

  -- A request that breaks the claim, with its chain; where there is none, what was decided on the way to an end.
  abbrev pub IsShown : List Decision → Option Request → DecidedEnds → Type 0
  IsShown branch None decided = decided ≡ Undecided branch
  IsShown branch (Some request) decided =
      (chain : Chain) × IsChain site.world site.config site.hosts request chain × (decided ≡ Refuted request chain)

  abbrev pub IsAnswered : List (List ℕ) → List End → DecidedEnds → Type 0
  IsAnswered headers [] decided = decided ≡ Proved
  IsAnswered headers (end ∷ ends) decided =
      (found : Option Request) × IsFirst headers (end ∷ ends) found × IsShown end.decisions found decided

  -- How many ends are looked at; how deep the world is; how many runs were made.
  module _ (limit levels spent : ℕ) where
    pub record IsTooMany (decided : DecidedEnds) : Type 0 where
      pub ends : List End
      pub some : AreSomeEnds site levels scope ends
      pub reached : limit ≤ length ends
      pub is : decided ≡ TooMany limit
      pub none : spent ≡ 0

    pub record IsKnown (decided : DecidedEnds) : Type 0 where
      pub ends : List End
      pub all : AreEnds site levels scope ends
      pub fewer : length ends < limit
      pub names : Names
      pub named : AreNames (rules_of (asked_at site scope)) names
      pub answer : IsAnswered names.headers (bad_of ends) decided
      pub most : spent ≤ most_runs (length (bad_of ends))

    abbrev pub IsDecided : DecidedEnds → Type 0
    IsDecided decided = IsTooMany decided ⊎ IsKnown decided

  -- Candidates of the bad ends were followed.
  pub record AreRuns (levels spent : ℕ) : Type 0 where
    pub ends : List End
    pub all : AreEnds site levels scope ends
    pub most : spent ≤ most_runs (length (bad_of ends))

  -- So many runs may be made.
  abbrev pub MayRun : ℕ → Type 0
  MayRun spent = (levels : ℕ) → IsListed levels (shown_by site.world) → (spent ≡ 0) ⊎ AreRuns levels spent

  -- So many are, also where memory is refused.
  abbrev pub Runs : ℕ → ℕ → Type 0
  Runs old new = (spent : ℕ) × (new ≡ old + spent) × MayRun spent

  -- How deep ever the world is, after some runs.
  abbrev pub Answers : ℕ → ℕ → ℕ → DecidedEnds → Type 0
  Answers limit old new decided = (spent : ℕ) × (new ≡ old + spent)
      × ((levels : ℕ) → IsListed levels (shown_by site.world) → IsDecided limit levels spent decided)
