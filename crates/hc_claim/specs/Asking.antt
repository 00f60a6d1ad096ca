-- What is asked, and the tree that tells it. Our own choice.
use Rattle.std.specs.Prelude.{◌≡◌, ◌⊎◌, ℕ, List, []}
use Rattle.hc_dfa.specs.Texts.{IsEmptySet}
use Rattle.hc_htaccess.specs.Reading.{reading_in}
use Rattle.hc_members.specs.Requests.{common_request}
use Rattle.hc_model.specs.World.{World}
use Rattle.hc_model.specs.declared.config.Config.{Config}
use Rattle.hc_model.specs.declared.config.HostId.{HostId}
use Rattle.hc_model.specs.declared.rewrite.Rule.{Rule}
use Rattle.hc_named.specs.Named.{all_rules}
use Rattle.hc_named.specs.declared.names.Names.{Names}
use Rattle.hc_plan.specs.Slots.{Slot}
use Rattle.hc_plan.specs.States.{AbsState}
use Rattle.hc_scope.specs.declared.claim.Claim.{Claim}
use Rattle.hc_scope.specs.declared.claim.Scope.{Scope}
use Rattle.hc_serve.specs.Request.{asked_of}
use Rattle.hc_serve.specs.Site.{site_at}
use Rattle.hc_steps.specs.Shown.{shown_by}
use Rattle.hc_world.specs.Places.{paths_of}
use Rattle.hc_world.specs.declared.world.ListKind.TheVariants.{Dir}
use Rattle.hc_abs_force.specs.Merging.{merges}
use Rattle.hc_abs_restart.specs.Restarted.{is_among}
use Rattle.hc_abs_start.specs.Starts.{known_of}
use Rattle.hc_abs_tree.specs.Trees.{Leaf, Node, Soil, pass}

-- A claim on all requests of a scope, under a configuration in a world.
pub record Asked : Type 0 where
  pub world : World
  pub config : Config
  pub scope : Scope
  pub claim : Claim

-- The server that answers all of them.
abbrev pub host_of : Asked → HostId
host_of asked = asked_of asked.config (common_request asked.scope)

-- The variables and headers of these rules are looked at.
abbrev pub rules_of : Asked → List Rule
rules_of asked =
    all_rules (reading_in asked.world asked.config) asked.config (host_of asked) (paths_of asked.world Dir)

-- ---- the tree

abbrev pub soil_of : Asked → ℕ → Names → Soil
soil_of asked levels names = record {
  site = site_at asked.config (host_of asked) (common_request asked.scope);
  shown = shown_by asked.world;
  levels = levels;
  merges = merges;
  names = is_among names.variables;
}

abbrev pub known_before : Asked → Names → AbsState
known_before asked names = known_of asked.scope names.variables names.headers

-- ---- its leaves

abbrev pub HasEmptySlot : AbsState → Type 0
HasEmptySlot known = (slot : Slot) × IsEmptySet (known.cell slot)

abbrev pub root_of : AbsState → Node
root_of known = record { at = pass 0; known = known; decided = [] }

-- All leaves of the tree, or some. There is none where a slot has no text before the first pass, as then no request
-- begins.
abbrev pub AreUnder : (Soil → Node → List Leaf → Type 0) → Soil → AbsState → List Leaf → Type 0
AreUnder Are soil known leaves = (HasEmptySlot known × (leaves ≡ []))
    ⊎ ((HasEmptySlot known → ⊥) × Are soil (root_of known) leaves)
