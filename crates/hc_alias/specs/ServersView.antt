-- What the code keeps of the servers that answer a request.
use Rattle.std.specs.Prelude.{List, [], ◌∷◌, Option, None, Some}
use Rattle.std.specs.Option.{option_map}
use Rattle.hc_model.specs.declared.config.Server.{Server}
use Rattle.hc_alias.specs.declared.mapping.Servers.{Servers}

abbrev pub host_before : Option Server → List Server → List Server
host_before None servers = servers
host_before (Some host) servers = host ∷ servers

abbrev pub servers_view : Servers → List Server
servers_view servers = host_before (option_map (λ host. host.now) servers.host) (servers.main.now ∷ [])
