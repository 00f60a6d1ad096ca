-- Which candidates of bad ends are followed, as code has these.
use Rattle.std.specs.Prelude.{◌≡◌, ◌≤◌, ℕ, ◌+◌, ◌*◌, List, [], ◌∷◌, Option, None, Some}
use Rattle.std.specs.List.{find}
use Rattle.hc_candidates.specs.Candidates.{AreCandidates}
use Rattle.hc_follow.specs.Chains.{IsChain}
use Rattle.hc_follow.specs.declared.chain.TheConstants.{MOST_STEPS}
use Rattle.hc_model.specs.declared.request.Request.{Request}
use Rattle.hc_scope.specs.declared.claim.Scope.{Scope}
use Rattle.hc_claim.specs.Deciding.{OrElse}
use Rattle.hc_ends.specs.Asking.{Site}
use Rattle.hc_ends.specs.Breaking.{is_broken}
use Rattle.hc_ends.specs.Deciding.{IsShown, most_runs}
use Rattle.hc_ends.specs.declared.decided.DecidedEnds.{DecidedEnds}
use Rattle.hc_ends.specs.declared.decided.DecidedEnds.TheVariants.{Proved}
use Rattle.hc_ends.specs.declared.finding.BadEnd.{BadEnd}
use Rattle.hc_ends.specs.declared.trying.Shown.{Shown}

-- The chain of a request that was found.
abbrev pub IsChainOf : Site → Option Request → Option Shown → Type 0
IsChainOf site found None = found ≡ None
IsChainOf site found (Some shown) =
    (found ≡ Some shown.request) × IsChain site.world site.config site.hosts shown.request shown.chain

-- The first candidate of these ends that breaks the claim.
abbrev pub IsFirstIn : Site → Scope → List (List ℕ) → List BadEnd → Option Request → Type 0
IsFirstIn site scope headers [] found = found ≡ None
IsFirstIn site scope headers (end ∷ ends) found = (own : List Request) × AreCandidates scope headers end.first own
    × OrElse (IsFirstIn site scope headers ends) (find (is_broken site) own) found

abbrev pub IsShownIn : Site → Scope → List (List ℕ) → List BadEnd → Option Shown → Type 0
IsShownIn site scope headers bad shown =
    (found : Option Request) × IsFirstIn site scope headers bad found × IsChainOf site found shown

-- So many chains are followed, at most.
abbrev pub Tries : ℕ → ℕ → ℕ → Type 0
Tries old new requests = (spent : ℕ) × (new ≡ old + spent) × (spent ≤ (MOST_STEPS + 1) * requests)

-- For so many ends.
abbrev pub Spends : ℕ → ℕ → ℕ → Type 0
Spends old new ends = (spent : ℕ) × (new ≡ old + spent) × (spent ≤ most_runs ends)

-- The answer by the bad ends.
abbrev pub IsAnsweredIn : Site → Scope → List (List ℕ) → List BadEnd → DecidedEnds → Type 0
IsAnsweredIn site scope headers [] decided = decided ≡ Proved
IsAnsweredIn site scope headers (end ∷ ends) decided = (found : Option Request)
    × IsFirstIn site scope headers (end ∷ ends) found × IsShown site scope end.decisions found decided
