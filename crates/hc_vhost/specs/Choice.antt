-- Which server answers a request.
-- Apache manual, "Name-based Virtual Host Support"; core: VirtualHost, ServerName, ServerAlias.
use Rattle.std.specs.Prelude.{ℕ, ◌==◌, List, take, Bool, true, false, ◌&&◌, ◌||◌, Option, None, Some}
use Rattle.std.specs.List.{list_any, position}
use Rattle.std.specs.Option.{option_or}
use Rattle.std.specs.Str.{str_eq_ignore_ascii_case}
use Rattle.hc_addr.specs.declared.addr.Addr.{Addr}
use Rattle.hc_addr.specs.declared.addr.Addr.TheVariants.{V4, V6}
use Rattle.hc_model.specs.declared.config.Config.{Config}
use Rattle.hc_model.specs.declared.config.HostAddr.{HostAddr}
use Rattle.hc_model.specs.declared.config.HostId.{HostId}
use Rattle.hc_model.specs.declared.config.HostId.TheVariants.{Main, Nth}
use Rattle.hc_model.specs.declared.config.Server.{Server}
use Rattle.hc_vhost.specs.Names.{fits}
use Rattle.hc_vhost.specs.declared.choice.TheConstants.{MOST_HOSTS}

-- ---- the address and the port of a connection

abbrev pub is_ipv4 : ℕ → Addr → Bool
is_ipv4 number (V4 address) = number == address
is_ipv4 number (V6 address) = false

-- An address of a host is the connection's; or it is `*`, where none is asked for.
abbrev pub is_address : Option Addr → Option ℕ → Bool
is_address None None = true
is_address None (Some number) = false
is_address (Some server) None = false
is_address (Some server) (Some number) = is_ipv4 number server

abbrev pub listens_as : Option Addr → ℕ → HostAddr → Bool
listens_as server port address = is_address server address.addr && (address.port == port)

-- The host has that address, or `*`, with this port.
abbrev pub listens : Option Addr → ℕ → Server → Bool
listens server port host = list_any (listens_as server port) host.addresses

-- ---- names

abbrev pub is_name : List ℕ → Option (List ℕ) → Bool
is_name name None = false
is_name name (Some own) = str_eq_ignore_ascii_case own name

-- By its ServerName, or by an alias.
abbrev pub has_name : List ℕ → Server → Bool
has_name name host = is_name name host.name || list_any (λ alias. fits alias name) host.names

-- ---- the choice

-- Of the hosts of which the test holds: the first that has the name, else the first.
abbrev pub first_of : (Server → Bool) → List ℕ → List Server → Option ℕ
first_of test name hosts = option_or (position (λ host. test host && has_name name host) hosts) (position test hosts)

abbrev pub host_id : Option ℕ → HostId
host_id None = Main
host_id (Some place) = Nth place

-- No more hosts can be named.
abbrev pub hosts_of : Config → List Server
hosts_of config = take MOST_HOSTS config.hosts

-- Of those with the connection's address and port; if there are none, of those with any address
-- and that port.
abbrev pub place_of : List Server → Addr → ℕ → List ℕ → Option ℕ
place_of hosts server port name =
    option_or (first_of (listens (Some server) port) name hosts) (first_of (listens None port) name hosts)

-- If there are none of either, the main server.
abbrev pub chosen : Config → Addr → ℕ → List ℕ → HostId
chosen config server port name = host_id (place_of (hosts_of config) server port name)
