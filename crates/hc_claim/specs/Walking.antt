-- The leaves of a tree that code looks at.
use Rattle.std.specs.Prelude.{◌≡◌, ◌≤◌, ◌<◌, ◌⊎◌, ℕ, List, [], ◌∷◌, ◌++◌, length}
use Rattle.std.specs.Prelude.{Bool, true, false, Option, None, Some}
use Rattle.hc_addr.specs.declared.addr.Addr.{Addr}
use Rattle.hc_model.specs.declared.request.Caller.{Caller}
use Rattle.hc_named.specs.declared.names.Names.{Names}
use Rattle.hc_plan.specs.Coded.{AllFit}
use Rattle.hc_plan.specs.States.{AbsState}
use Rattle.hc_plan.specs.declared.storing.Tied.{Tied}
use Rattle.hc_scope.specs.declared.claim.Claim.{Claim}
use Rattle.hc_members.specs.Requests.{common_request}
use Rattle.hc_serve.specs.Site.{site_at}
use Rattle.hc_steps.specs.Shown.{shown_by}
use Rattle.hc_abs_leaves.specs.Fitting.{LeafFits, soil_in}
use Rattle.hc_abs_leaves.specs.Growing.{Holds}
use Rattle.hc_abs_leaves.specs.Some.{AreSome}
use Rattle.hc_abs_leaves.specs.declared.leaf.Leaf.{Leaf as LeafIn}
use Rattle.hc_abs_leaves.specs.declared.tree.Tree.{Tree}
use Rattle.hc_abs_left.specs.Grounds.{HasClients, shown_in, site_in}
use Rattle.hc_abs_left.specs.declared.ground.Ground.{Ground}
use Rattle.hc_abs_pass.specs.Walks.{IsListed}
use Rattle.hc_abs_rw.specs.RuleBranches.{Rests}
use Rattle.hc_abs_start.specs.Starts.{sole_client}
use Rattle.hc_abs_tree.specs.Trees.{AreLeaves, Leaf, Soil, goes}
use Rattle.hc_claim.specs.Asking.{Asked, AreUnder, HasEmptySlot, host_of, known_before, root_of, soil_of}
use Rattle.hc_claim.specs.Bad.{AreBad}

-- The bad ones of these leaves.
abbrev pub BadFit : Option Addr → Caller → Claim → List Leaf → List LeafIn → Type 0
BadFit client caller claim leaves bad =
    (own : List Leaf) × AreBad claim leaves own × AllFit (LeafFits client caller) bad own

-- With a leaf that is bad.
abbrev pub kept_by : Bool → LeafIn → List LeafIn → List LeafIn
kept_by true own bad = bad ++ own ∷ []
kept_by false own bad = bad

-- As many leaves as the limit, at least; or the bad leaves, where there are fewer.
abbrev pub Found : Option Addr → Claim → ℕ → Soil → AbsState → Option (List LeafIn) → Type 0
Found client claim limit soil known None =
    (leaves : List Leaf) × AreUnder AreSome soil known leaves × (limit ≤ length leaves)
Found client claim limit soil known (Some bad) =
    (leaves : List Leaf) × AreUnder AreLeaves soil known leaves × (length leaves < limit)
    × BadFit client soil.site.caller claim leaves bad

abbrev pub IsWalked : Ground → Claim → Tied → ℕ → Option (List LeafIn) → Type 0
IsWalked ground claim tied limit found = (levels : ℕ) (known : AbsState) → IsListed levels (shown_in ground)
    → Rests ground.client tied known → HasClients ground known
    → Found ground.client claim limit (soil_in levels ground) known found

-- So it is for what is asked.
abbrev pub IsWalkedFor : Asked → Names → ℕ → Option (List LeafIn) → Type 0
IsWalkedFor asked names limit found = (levels : ℕ) → IsListed levels (shown_by asked.world)
    → Found (sole_client asked.scope.client) asked.claim limit (soil_of asked levels names) (known_before asked names)
    found

-- The tree has all behind the first pass, and nothing where a slot has no text.
abbrev pub BeginsUnder : Tied → Tree → Type 0
BeginsUnder tied tree = (ground : Ground) (known : AbsState) → Rests ground.client tied known → HasClients ground known
    → (HasEmptySlot known × Holds ground tree [])
    ⊎ ((HasEmptySlot known → ⊥) × Holds ground tree (goes (root_of known) ∷ []))

-- What code lends is what is asked.
pub record Fits (asked : Asked) (names : Names) (ground : Ground) : Type 0 where
  pub world : shown_in ground ≡ shown_by asked.world
  pub site : site_in ground ≡ site_at asked.config (host_of asked) (common_request asked.scope)
  pub looked : ground.names.now ≡ names.variables
  pub client : ground.client ≡ sole_client asked.scope.client
  pub net : ground.net.now ≡ asked.scope.client
