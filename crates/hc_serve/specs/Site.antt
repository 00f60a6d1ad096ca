-- What a request is answered by.
-- Apache manual, mod_rewrite, RewriteCond (SERVER_NAME); core, LimitInternalRecursion. Where SERVER_NAME
-- comes from, and the limit without a directive, is our own choice.
use Rattle.std.specs.Prelude.{ℕ, ◌==◌, ◌+◌, List, length, if◌then◌else◌, Option, Some, None}
use Rattle.std.specs.Option.{option_or}
use Rattle.hc_addr.specs.Printed.{printed}
use Rattle.hc_vhost.specs.Servers.{server_at}
use Rattle.hc_model.specs.declared.config.Config.{Config}
use Rattle.hc_model.specs.declared.config.HostId.{HostId}
use Rattle.hc_model.specs.declared.config.Server.{Server}
use Rattle.hc_model.specs.declared.request.Caller.{Caller}
use Rattle.hc_model.specs.declared.request.Request.{Request}
use Rattle.hc_serve.specs.declared.asked.Asked.{Asked}
use Rattle.hc_serve.specs.declared.site.TheConstants.{DEFAULT_RESTARTS}

-- ---- SERVER_NAME

-- A name that is empty counts as none.
abbrev pub or_address : Option (List ℕ) → Request → List ℕ
or_address None request = printed request.server
or_address (Some name) request = if length name == 0 then printed request.server else name

-- The name of the Host header, else ServerName, else the server's address.
abbrev pub server_name : Server → Request → List ℕ
server_name server request = if length request.host == 0 then or_address server.name request else request.host

-- ---- how many passes there are at most

abbrev pub or_default : Option ℕ → ℕ
or_default None = DEFAULT_RESTARTS
or_default (Some limit) = limit

-- One, and as many as the limit of the chosen server, else of the main server.
abbrev pub most_passes : Config → HostId → ℕ
most_passes config host = 1 + or_default (option_or (server_at config host).recursion config.main.recursion)

-- ---- the site

-- The configuration, the server that answers, and the request at that server.
pub record Site : Type 0 where
  pub config : Config
  pub host : HostId
  pub caller : Caller

abbrev pub caller_at : Config → HostId → Request → Caller
caller_at config host request = record { request = request; name = server_name (server_at config host) request }

abbrev pub site_at : Config → HostId → Request → Site
site_at config host request = record { config = config; host = host; caller = caller_at config host request }

-- What the code keeps of it.
abbrev pub site_of : Asked → Site
site_of asked = record { config = asked.config.now; host = asked.host; caller = asked.caller.now }
