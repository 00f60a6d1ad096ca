-- The leaves of the requests of a scope, as code has them.
use Rattle.std.specs.Prelude.{◌≡◌, ◌≤◌, ℕ, List, length, true, false, Option, None, Some}
use Rattle.hc_addr.specs.declared.addr.Addr.{Addr}
use Rattle.hc_model.specs.declared.request.Caller.{Caller}
use Rattle.hc_named.specs.declared.names.Names.{Names}
use Rattle.hc_plan.specs.Coded.{AllFit}
use Rattle.hc_plan.specs.States.{AbsState}
use Rattle.hc_plan.specs.declared.storing.Tied.{Tied}
use Rattle.hc_scope.specs.declared.claim.Scope.{Scope}
use Rattle.hc_steps.specs.Shown.{shown_by}
use Rattle.hc_abs_leaves.specs.Fitting.{LeafFits, soil_in}
use Rattle.hc_abs_leaves.specs.Some.{AreSome}
use Rattle.hc_abs_leaves.specs.declared.leaf.Leaf.{Leaf as LeafIn}
use Rattle.hc_abs_left.specs.Grounds.{HasClients, shown_in}
use Rattle.hc_abs_left.specs.declared.ground.Ground.{Ground}
use Rattle.hc_abs_pass.specs.Walks.{IsListed}
use Rattle.hc_abs_rw.specs.RuleBranches.{Rests}
use Rattle.hc_abs_start.specs.Starts.{sole_client}
use Rattle.hc_abs_tree.specs.Trees.{AreLeaves, Leaf, Soil}
use Rattle.hc_claim.specs.Asking.{Asked, AreUnder, known_before, soil_of}
use Rattle.hc_ends.specs.Asking.{Site}
use Rattle.hc_ends.specs.Chains.{HasLeaves, caller_of}
use Rattle.hc_ends.specs.declared.walking.Walked.{Walked}

-- As many leaves as the limit, at least; or all of them.
abbrev pub Found : Option Addr → Caller → ℕ → Soil → AbsState → Option (List LeafIn) → Type 0
Found client caller limit soil known None =
    (leaves : List Leaf) × AreUnder AreSome soil known leaves × (limit ≤ length leaves)
Found client caller limit soil known (Some found) =
    (leaves : List Leaf) × AreUnder AreLeaves soil known leaves × AreUnder AreSome soil known leaves
    × AllFit (LeafFits client caller) found leaves

abbrev pub IsGathered : Ground → Tied → ℕ → Option (List LeafIn) → Type 0
IsGathered lent tied limit found = (levels : ℕ) (known : AbsState) → IsListed levels (shown_in lent)
    → Rests lent.client tied known → HasClients lent known
    → Found lent.client lent.tests.now limit (soil_in levels lent) known found

-- So it is for what is asked.
abbrev pub IsGatheredFor : Asked → Names → Caller → ℕ → Option (List LeafIn) → Type 0
IsGatheredFor asked names caller limit found = (levels : ℕ) → IsListed levels (shown_by asked.world)
    → Found (sole_client asked.scope.client) caller limit (soil_of asked levels names) (known_before asked names) found

-- ---- of a scope

pub record HasAll (site : Site) (scope : Scope) (limit levels : ℕ) (found : List LeafIn) : Type 0 where
  pub leaves : List Leaf
  pub all : HasLeaves site false levels scope leaves
  pub some : HasLeaves site true levels scope leaves
  pub fit : AllFit (LeafFits (sole_client scope.client) (caller_of site scope)) found leaves

pub record HasMany (site : Site) (scope : Scope) (limit levels : ℕ) : Type 0 where
  pub leaves : List Leaf
  pub some : HasLeaves site true levels scope leaves
  pub many : limit ≤ length leaves

abbrev pub IsWalked : Site → Scope → ℕ → Option Walked → Type 0
IsWalked site scope limit None = (levels : ℕ) → IsListed levels (shown_by site.world) → HasMany site scope limit levels
IsWalked site scope limit (Some walked) = (walked.tests ≡ caller_of site scope)
    × ((levels : ℕ) → IsListed levels (shown_by site.world) → HasAll site scope limit levels walked.leaves.items)
