-- The answer to a claim. Our own choice.
use Rattle.std.specs.Prelude.{◌≡◌, ◌⊎◌, ◌≤◌, ◌<◌, ℕ, ◌+◌, ◌*◌, List, [], ◌∷◌}
use Rattle.std.specs.Prelude.{length, Option, None, Some}
use Rattle.std.specs.List.{find}
use Rattle.hc_broken.specs.Breaking.{is_broken}
use Rattle.hc_candidates.specs.Candidates.{AreCandidates}
use Rattle.hc_candidates.specs.declared.picking.TheConstants.{MOST_CANDIDATES}
use Rattle.hc_cells.specs.Cells.{Sets}
use Rattle.hc_model.specs.declared.event.Decision.{Decision}
use Rattle.hc_model.specs.declared.request.Request.{Request}
use Rattle.hc_named.specs.Named.{AreNames}
use Rattle.hc_named.specs.declared.names.Names.{Names}
use Rattle.hc_plan.specs.Hands.{cell_of}
use Rattle.hc_scope.specs.declared.claim.Scope.{Scope}
use Rattle.hc_serve.specs.Request.{IsWholeRun}
use Rattle.hc_serve.specs.declared.answer.WholeRun.{WholeRun}
use Rattle.hc_steps.specs.Shown.{shown_by}
use Rattle.hc_abs_leaves.specs.Some.{AreSome}
use Rattle.hc_abs_pass.specs.Walks.{IsListed}
use Rattle.hc_abs_tree.specs.Trees.{AreLeaves, Leaf}
use Rattle.hc_claim.specs.Asking.{Asked, AreUnder, known_before, rules_of, soil_of}
use Rattle.hc_claim.specs.Bad.{AreBad}
use Rattle.hc_claim.specs.declared.decided.Decided.{Decided}
use Rattle.hc_claim.specs.declared.decided.Decided.TheVariants.{Proved, Refuted, TooMany, Undecided}

-- ---- what is tried

-- The candidates of a leaf are those of its sets.
abbrev pub AreTriedAt : Scope → List (List ℕ) → Leaf → List Request → Type 0
AreTriedAt scope headers leaf requests =
    (sets : Sets) × (leaf.known.cell ≡ cell_of sets) × AreCandidates scope headers sets requests

abbrev pub OrElse : (Option Request → Type 0) → Option Request → Option Request → Type 0
OrElse Later (Some request) found = found ≡ Some request
OrElse Later None found = Later found

-- ---- the answer

module _ (asked : Asked) where
  -- Bad leaves are taken in order, and of each its candidates: the first request that breaks the claim.
  abbrev pub IsFirst : List (List ℕ) → List Leaf → Option Request → Type 0
  IsFirst headers [] found = found ≡ None
  IsFirst headers (leaf ∷ leaves) found =
      (own : List Request) × AreTriedAt asked.scope headers leaf own
      × OrElse (IsFirst headers leaves) (find (is_broken asked.world asked.config asked.claim) own) found

  -- A request that breaks the claim, with its run; where there is none, what a branch decided.
  abbrev pub IsShown : List Decision → Option Request → Decided → Type 0
  IsShown branch None decided = decided ≡ Undecided branch
  IsShown branch (Some request) decided =
      (whole : WholeRun) × IsWholeRun asked.world asked.config request whole × (decided ≡ Refuted request whole)

  -- By the bad leaves: an undecided answer has what the first one decided.
  abbrev pub IsAnswered : List (List ℕ) → List Leaf → Decided → Type 0
  IsAnswered headers [] decided = decided ≡ Proved
  IsAnswered headers (leaf ∷ leaves) decided =
      (found : Option Request) × IsFirst headers (leaf ∷ leaves) found × IsShown leaf.decisions found decided

  -- How many leaves are looked at; how deep the world is; how many runs were made.
  module _ (limit levels spent : ℕ) where
    pub record IsTooMany (decided : Decided) : Type 0 where
      pub names : Names
      pub named : AreNames (rules_of asked) names
      pub leaves : List Leaf
      pub some : AreUnder AreSome (soil_of asked levels names) (known_before asked names) leaves
      pub reached : limit ≤ length leaves
      pub is : decided ≡ TooMany limit
      pub none : spent ≡ 0

    pub record IsKnown (decided : Decided) : Type 0 where
      pub names : Names
      pub named : AreNames (rules_of asked) names
      pub leaves : List Leaf
      pub all : AreUnder AreLeaves (soil_of asked levels names) (known_before asked names) leaves
      pub fewer : length leaves < limit
      pub bad : List Leaf
      pub are_bad : AreBad asked.claim leaves bad
      pub answer : IsAnswered names.headers bad decided
      pub most : spent ≤ MOST_CANDIDATES * length bad

    abbrev pub IsDecided : Decided → Type 0
    IsDecided decided = IsTooMany decided ⊎ IsKnown decided

  -- Candidates of the bad leaves were run: of each so many at most.
  pub record AreRuns (levels spent : ℕ) : Type 0 where
    pub names : Names
    pub named : AreNames (rules_of asked) names
    pub leaves : List Leaf
    pub all : AreUnder AreLeaves (soil_of asked levels names) (known_before asked names) leaves
    pub bad : List Leaf
    pub are_bad : AreBad asked.claim leaves bad
    pub most : spent ≤ MOST_CANDIDATES * length bad

  -- So many runs may be made.
  abbrev pub MayRun : ℕ → Type 0
  MayRun spent = (levels : ℕ) → IsListed levels (shown_by asked.world) → (spent ≡ 0) ⊎ AreRuns levels spent

  -- So many are, also where memory is refused.
  abbrev pub Runs : ℕ → ℕ → Type 0
  Runs old new = (spent : ℕ) × (new ≡ old + spent) × MayRun spent

  -- How deep ever the world is, after some runs.
  abbrev pub Answers : ℕ → ℕ → ℕ → Decided → Type 0
  Answers limit old new decided = (spent : ℕ) × (new ≡ old + spent)
      × ((levels : ℕ) → IsListed levels (shown_by asked.world) → IsDecided limit levels spent decided)
