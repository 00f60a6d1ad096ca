-- Which candidates of bad leaves are tried, as code has these.
use Rattle.std.specs.Prelude.{◌≡◌, ◌≤◌, ℕ, ◌+◌, ◌*◌, List, [], ◌∷◌, Option, None, Some}
use Rattle.std.specs.List.{find}
use Rattle.hc_broken.specs.Breaking.{is_broken}
use Rattle.hc_candidates.specs.Candidates.{AreCandidates}
use Rattle.hc_candidates.specs.declared.picking.TheConstants.{MOST_CANDIDATES}
use Rattle.hc_model.specs.declared.request.Request.{Request}
use Rattle.hc_serve.specs.Request.{IsWholeRun}
use Rattle.hc_abs_leaves.specs.declared.leaf.Leaf.{Leaf}
use Rattle.hc_claim.specs.Asking.{Asked}
use Rattle.hc_claim.specs.Deciding.{IsShown, OrElse}
use Rattle.hc_claim.specs.declared.decided.Decided.{Decided}
use Rattle.hc_claim.specs.declared.decided.Decided.TheVariants.{Proved}
use Rattle.hc_claim.specs.declared.question.Question.{Question}
use Rattle.hc_claim.specs.declared.trying.Shown.{Shown}

abbrev pub asked_in : Question → Asked
asked_in question = record {
  world = question.world.now.files;
  config = question.config.now;
  scope = question.scope.now;
  claim = question.claim.now;
}

-- The run of a request that was found.
abbrev pub IsRunOf : Asked → Option Request → Option Shown → Type 0
IsRunOf asked found None = found ≡ None
IsRunOf asked found (Some shown) =
    (found ≡ Some shown.request) × IsWholeRun asked.world asked.config shown.request shown.run

abbrev pub broken_of : Asked → List Request → Option Request
broken_of asked requests = find (is_broken asked.world asked.config asked.claim) requests

-- The first candidate of these leaves that breaks the claim.
abbrev pub IsFirstIn : Asked → List (List ℕ) → List Leaf → Option Request → Type 0
IsFirstIn asked headers [] found = found ≡ None
IsFirstIn asked headers (leaf ∷ leaves) found =
    (own : List Request) × AreCandidates asked.scope headers (leaf.tied).cell own
    × OrElse (IsFirstIn asked headers leaves) (broken_of asked own) found

abbrev pub IsShownIn : Asked → List (List ℕ) → List Leaf → Option Shown → Type 0
IsShownIn asked headers bad shown = (found : Option Request) × IsFirstIn asked headers bad found × IsRunOf asked found shown

-- As many runs as there are requests, at most.
abbrev pub Tries : ℕ → ℕ → ℕ → Type 0
Tries old new requests = (spent : ℕ) × (new ≡ old + spent) × (spent ≤ requests)

-- So many runs at most were made for so many leaves.
abbrev pub Spends : ℕ → ℕ → ℕ → Type 0
Spends old new leaves = (spent : ℕ) × (new ≡ old + spent) × (spent ≤ MOST_CANDIDATES * leaves)

-- The answer by the bad leaves.
abbrev pub IsAnsweredIn : Asked → List (List ℕ) → List Leaf → Decided → Type 0
IsAnsweredIn asked headers [] decided = decided ≡ Proved
IsAnsweredIn asked headers (leaf ∷ leaves) decided =
    (found : Option Request) × IsFirstIn asked headers (leaf ∷ leaves) found × IsShown asked leaf.decisions found decided
