-- What the rules of the server that answers run with, and what a pass goes on with behind them.
-- Apache manual, mod_rewrite: RewriteEngine, RewriteOptions, RewriteMap; "Apache mod_rewrite Technical Details".
use Rattle.std.specs.Prelude.{ℕ, List, [], ◌∷◌, Bool, true, false, if◌then◌else◌, Option, Some, None}
use Rattle.std.specs.Option.{unwrap_or}
use Rattle.hc_alias.specs.Mapping.{root_of}
use Rattle.hc_base.specs.Bytes.{slash}
use Rattle.hc_base.specs.Paths.{is_slash}
use Rattle.hc_map.specs.Maps.{file_of, value_of}
use Rattle.hc_merge.specs.Rewriting.{with_earlier}
use Rattle.hc_model.specs.declared.config.Config.{Config}
use Rattle.hc_model.specs.declared.config.HostId.{HostId}
use Rattle.hc_model.specs.declared.config.HostId.TheVariants.{Main, Nth}
use Rattle.hc_model.specs.declared.config.Server.{Server}
use Rattle.hc_model.specs.declared.mapping.Map.{Map}
use Rattle.hc_model.specs.declared.rewrite.Rule.{Rule}
use Rattle.hc_model.specs.declared.section.Body.{out-Body}
use Rattle.hc_model.specs.declared.section.Inherit.{Inherit}
use Rattle.hc_model.specs.declared.section.Inherit.TheVariants.{After, Before, No}
use Rattle.hc_model.specs.declared.walk.Kind.{Kind}
use Rattle.hc_model.specs.declared.walk.Kind.TheVariants as kind
use Rattle.hc_rw_expand.specs.Contexts.{Context}
use Rattle.hc_rw_expand.specs.Lookups.{Looks}
use Rattle.hc_rw_expand.specs.Variables.{Variables}
use Rattle.hc_rw_expand.specs.declared.state.RwState.{RwState}
use Rattle.hc_serve.specs.Site.{Site}
use Rattle.hc_serve.specs.declared.stage.Pass.{Pass}
use Rattle.hc_serve.specs.declared.stage.Placed.{Placed}
use Rattle.hc_serve.specs.declared.stage.Placed.TheVariants as placed
use Rattle.hc_vhost.specs.Servers.{server_at, servers_of}

-- ---- what is in force

-- RewriteOptions of the main server inherits nothing.
abbrev pub inherited_by : HostId → Server → Inherit
inherited_by Main server = No
inherited_by (Nth place) server = (out-Body server.body).inherit

abbrev pub rules_of : Config → HostId → List Rule
rules_of config host =
    with_earlier (inherited_by host (server_at config host)) (out-Body (server_at config host).body).rules
    (out-Body config.main.body).rules

abbrev pub rules_at : Site → List Rule
rules_at site = rules_of site.config site.host

-- Inherited maps always come behind the server's own.
abbrev pub behind_own : Inherit → Inherit
behind_own No = No
behind_own After = After
behind_own Before = After

abbrev pub maps_of : Config → HostId → List Map
maps_of config host =
    with_earlier (behind_own (inherited_by host (server_at config host))) (server_at config host).rewrite_maps
    config.main.rewrite_maps

abbrev pub maps_at : Site → List Map
maps_at site = maps_of site.config site.host

abbrev pub looks_of : List Map → Looks
looks_of maps = record { file = file_of maps; value = value_of maps }

-- The server's own RewriteEngine.
abbrev pub engine_of : Config → HostId → Bool
engine_of config host = unwrap_or (out-Body (server_at config host).body).engine false

abbrev pub engine_at : Site → Bool
engine_at site = engine_of site.config site.host

-- ---- the run

-- A pass as it begins.
abbrev pub pass_at : ℕ → List ℕ → List ℕ → Variables → Bool → Pass
pass_at number path query vars end =
    record { number = number; path = path; query = query; first_query = query; vars = vars; end = end }

abbrev pub context_at : Site → Pass → Context
context_at site pass = record {
  caller = site.caller;
  path = pass.path;
  root = root_of (servers_of site.config site.host);
  first_query = pass.first_query;
  engine = None;
}

-- The URL path is rewritten.
abbrev pub state_at : Pass → RwState
state_at pass = record {
  text = pass.path;
  query = pass.query;
  info = [];
  vars = pass.vars;
  end = pass.end;
  groups = None;
  cond_groups = None;
}

-- ---- behind the run

abbrev pub pass_with : Pass → RwState → Pass
pass_with pass state = record pass { query = state.query; vars = state.vars; end = state.end }

-- The bytes behind the slashes that a text begins with.
abbrev pub behind_slashes : List ℕ → List ℕ
behind_slashes [] = []
behind_slashes (b ∷ bs) = if is_slash b then behind_slashes bs else b ∷ bs

abbrev pub as_path : List ℕ → Option (List ℕ)
as_path [] = None
as_path (b ∷ bs) = Some (slash ∷ b ∷ bs)

-- What stands before the first slash.
abbrev pub component : List ℕ → List ℕ
component [] = []
component (b ∷ bs) = if is_slash b then [] else b ∷ component bs

-- A text of slashes alone has none.
abbrev pub first_component : List ℕ → Option (List ℕ)
first_component text = as_path (component (behind_slashes text))

abbrev pub is_there : Kind → Bool
is_there kind.Absent = false
is_there kind.Dir = true
is_there kind.File = true

abbrev pub own_name : Pass → List ℕ → Placed
own_name pass text = placed.Named (record { pass = pass; name = text; from = None; own = true })
