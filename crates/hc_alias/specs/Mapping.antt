-- How a URL path becomes a file name, or is sent away.
-- Apache manual, mod_alias, "Order of Processing"; core, DocumentRoot; "Mapping URLs to Filesystem
-- Locations". That a host's entries come before those of the main server is our own choice.
use Rattle.std.specs.Prelude.{ℕ, List, [], ◌∷◌, ◌++◌, Option, Some, None, option_map}
use Rattle.std.specs.List.{flat_map}
use Rattle.std.specs.Option.{option_or}
use Rattle.hc_model.specs.declared.config.Config.{Config}
use Rattle.hc_model.specs.declared.config.HostId.{HostId}
use Rattle.hc_model.specs.declared.config.Server.{Server}
use Rattle.hc_model.specs.declared.mapping.Alias.{Alias}
use Rattle.hc_model.specs.declared.mapping.Redirect.{Redirect}
use Rattle.hc_model.specs.declared.request.Caller.{Caller}
use Rattle.hc_model.specs.declared.spot.Spot.{Spot}
use Rattle.hc_alias.specs.declared.mapping.Away.{Away}
use Rattle.hc_alias.specs.declared.mapping.Mapped.{Mapped}
use Rattle.hc_alias.specs.declared.mapping.Mapped.TheVariants as mapped
use Rattle.hc_template.specs.Filled.{filled}
use Rattle.hc_alias.specs.Filling.{filling_with}
use Rattle.hc_alias.specs.Locations.{sent_by}
use Rattle.hc_vhost.specs.Servers.{servers_of}
use Rattle.hc_alias.specs.Tests.{Found, first_taking}

-- ---- redirects

abbrev pub redirect_spot : Redirect → Spot
redirect_spot redirect = record { place = redirect.place; span = redirect.span }

abbrev pub away_by : Caller → List ℕ → Redirect × Found → Away
away_by caller query taken = record { outcome = sent_by caller taken.0 taken.1 query; from = redirect_spot taken.0 }

abbrev pub redirects_of : List Server → List Redirect
redirects_of servers = flat_map (λ server. server.redirects) servers

-- Where the first redirect of a list that takes the path sends the request.
abbrev pub away : List Redirect → List ℕ → List ℕ → Caller → Option Away
away redirects path query caller =
    option_map (away_by caller query) (first_taking (λ redirect. redirect.from) redirects path)

-- ---- file names

abbrev pub alias_spot : Alias → Spot
alias_spot alias = record { place = alias.place; span = alias.span }

abbrev pub named_by : Alias × Found → Mapped
named_by taken = mapped.Name (filled (filling_with taken.1.groups) taken.0.to ++ taken.1.rest)
    (Some (alias_spot taken.0))

abbrev pub maps_of : List Server → List Alias
maps_of servers = flat_map (λ server. server.aliases) servers

-- The name that the first alias of a list gives that takes the path.
abbrev pub aliased : List Alias → List ℕ → Option Mapped
aliased aliases path = option_map named_by (first_taking (λ alias. alias.from) aliases path)

-- The first of these servers that has a document root.
abbrev pub root_of : List Server → Option (List ℕ)
root_of [] = None
root_of (server ∷ servers) = option_or server.root (root_of servers)

abbrev pub under_root : Option (List ℕ) → List ℕ → Mapped
under_root None path = mapped.NoRoot
under_root (Some root) path = mapped.Name (root ++ path) None

-- ---- the mapping

abbrev pub or_named : Option Mapped → Mapped → Mapped
or_named None other = other
or_named (Some name) other = name

abbrev pub unless_away : Option Away → Mapped → Mapped
unless_away None other = other
unless_away (Some sent) other = mapped.Away sent

-- The redirects of all these servers come before their aliases, and these before the root.
abbrev pub mapped_among : List Server → List ℕ → List ℕ → Caller → Mapped
mapped_among servers path query caller =
    unless_away (away (redirects_of servers) path query caller)
    (or_named (aliased (maps_of servers) path) (under_root (root_of servers) path))

abbrev pub map_url : Config → HostId → List ℕ → List ℕ → Caller → Mapped
map_url config host path query caller = mapped_among (servers_of config host) path query caller
