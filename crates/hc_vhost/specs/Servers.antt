-- The servers that answer a request: a virtual host, if there is one, before the main server.
use Rattle.std.specs.Prelude.{◌<◌, ⊤, List, [], ◌∷◌, length, slice_get, Option, Some, None}
use Rattle.hc_model.specs.declared.config.Config.{Config}
use Rattle.hc_model.specs.declared.config.HostId.{HostId}
use Rattle.hc_model.specs.declared.config.HostId.TheVariants.{Main, Nth}
use Rattle.hc_model.specs.declared.config.Server.{Server}

-- A virtual host is one of the configuration's.
abbrev pub IsHostOf : Config → HostId → Type 0
IsHostOf config Main = ⊤
IsHostOf config (Nth place) = place < length config.hosts

abbrev pub or_main : Config → Option Server → Server
or_main config None = config.main
or_main config (Some host) = host

-- The chosen server.
abbrev pub server_at : Config → HostId → Server
server_at config Main = config.main
server_at config (Nth place) = or_main config (slice_get config.hosts place)

abbrev pub servers_of : Config → HostId → List Server
servers_of config Main = config.main ∷ []
servers_of config (Nth place) = server_at config (Nth place) ∷ config.main ∷ []
