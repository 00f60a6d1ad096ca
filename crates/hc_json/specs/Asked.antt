-- What an `ask` stands for: what each of its fields gives, one after another. Our own choice.
use Rattle.std.specs.Prelude.{ℕ, List, [], Bool, false, Result, Ok, codes}
use Rattle.serde_json.specs.Data.{Data}
use Rattle.serde_json.specs.Find.{as_bool}
use Rattle.hc_addr.specs.declared.addr.Addr.{Addr}
use Rattle.hc_addr.specs.declared.addr.Addr.TheVariants.{V4}
use Rattle.hc_model.specs.declared.request.Header.{Header}
use Rattle.hc_model.specs.declared.request.Request.{Request}
use Rattle.hc_model.specs.declared.request.Scheme.{Scheme}
use Rattle.hc_model.specs.declared.request.Scheme.TheVariants.{Http, Https}
use Rattle.hc_json.specs.Fields.{optional, wanted, ◌>>=◌}
use Rattle.hc_forms.specs.Forms.{is_host, is_method, is_target}
use Rattle.hc_json.specs.Forms.{addr_from, headers_from, port_from, scheme_from, text_where}
use Rattle.hc_json.specs.declared.asked.TheConstants.{CLIENT, HTTP_PORT, HTTPS_PORT, SERVER}

-- A request, and whether how its outcome came is asked too.
pub record Question : Type 0 where
  pub request : Request
  pub trail : Bool

abbrev pub target_in : Data → Result (List ℕ) (List ℕ)
target_in d = wanted (codes "target") (text_where is_target) d

abbrev pub method_in : Data → Result (List ℕ) (List ℕ)
method_in d = optional (codes "method") (codes "GET") (text_where is_method) d

abbrev pub scheme_in : Data → Result Scheme (List ℕ)
scheme_in d = optional (codes "scheme") Http scheme_from d

abbrev pub server_in : Data → Result Addr (List ℕ)
server_in d = optional (codes "server") (V4 SERVER) addr_from d

abbrev pub port_of : Scheme → ℕ
port_of Http = HTTP_PORT
port_of Https = HTTPS_PORT

abbrev pub port_in : Scheme → Data → Result ℕ (List ℕ)
port_in scheme d = optional (codes "port") (port_of scheme) port_from d

abbrev pub host_in : Data → Result (List ℕ) (List ℕ)
host_in d = optional (codes "host") (codes "localhost") (text_where is_host) d

abbrev pub client_in : Data → Result Addr (List ℕ)
client_in d = optional (codes "client") (V4 CLIENT) addr_from d

abbrev pub headers_in : Data → Result (List Header) (List ℕ)
headers_in d = optional (codes "headers") [] headers_from d

abbrev pub trail_in : Data → Result Bool (List ℕ)
trail_in d = optional (codes "trail") false as_bool d

-- The request, or the first field that is missing or ill-formed.
abbrev pub request_in : Data → Result Request (List ℕ)
request_in d =
    target_in d >>= λ target.
    method_in d >>= λ method.
    scheme_in d >>= λ scheme.
    server_in d >>= λ server.
    port_in scheme d >>= λ port.
    host_in d >>= λ host.
    client_in d >>= λ client.
    headers_in d >>= λ headers.
    Ok (record {
      method = method;
      scheme = scheme;
      server = server;
      port = port;
      host = host;
      client = client;
      headers = headers;
      target = target;
    })

abbrev pub asked_in : Data → Result Question (List ℕ)
asked_in d =
    request_in d >>= λ request.
    trail_in d >>= λ trail.
    Ok (record { request = request; trail = trail })
