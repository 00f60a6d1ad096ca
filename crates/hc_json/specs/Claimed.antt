-- The answers to claims as JSON values: a request with all its fields, and what a branch decided. Our own choice.
use Rattle.std.specs.Prelude.{ℕ, List, [], ◌∷◌, map, codes}
use Rattle.serde_json.specs.Data.{Data, Members, array, boolean, no_members, number, object, put, unsigned}
use Rattle.serde_json.specs.View.{items_of}
use Rattle.hc_addr.specs.Printed.{printed}
use Rattle.hc_model.specs.declared.event.Decision.{Decision}
use Rattle.hc_model.specs.declared.event.Decision.TheVariants as decision
use Rattle.hc_model.specs.declared.request.Header.{Header}
use Rattle.hc_model.specs.declared.request.Request.{Request}
use Rattle.hc_model.specs.declared.request.Scheme.{Scheme}
use Rattle.hc_model.specs.declared.request.Scheme.TheVariants.{Http, Https}
use Rattle.hc_json.specs.Shown.{shown}
use Rattle.hc_json.specs.Trail.{named, placed, text_data}

abbrev pub scheme_name : Scheme → List ℕ
scheme_name Http = codes "http"
scheme_name Https = codes "https"

-- These members, and each header by its name.
abbrev pub with_headers : Members → List Header → Members
with_headers members [] = members
with_headers members (header ∷ rest) = with_headers (put (shown header.name) (text_data header.value) members) rest

-- Who asks, for which host, and how.
abbrev pub with_asker : Request → Members → Members
with_asker request members =
    put (codes "method") (text_data request.method) (
    put (codes "host") (text_data request.host) (
    put (codes "headers") (object (with_headers no_members request.headers)) (
    put (codes "client") (text_data (printed request.client)) members)))

-- What is asked, and where.
abbrev pub with_asked : Request → Members → Members
with_asked request members =
    put (codes "target") (text_data request.target) (
    put (codes "server") (text_data (printed request.server)) (
    put (codes "scheme") (text_data (scheme_name request.scheme)) (
    put (codes "port") (number (unsigned request.port)) members)))

-- Its members, each put at its key's place in byte order.
abbrev pub request_data : Request → Data
request_data request = object (with_asked request (with_asker request no_members))

abbrev pub decision_data : Decision → Data
decision_data (decision.Cond place held) = named (codes "cond") (placed place (boolean held ∷ []))
decision_data (decision.Rule place matched) = named (codes "rule") (placed place (boolean matched ∷ []))

abbrev pub branch_data : List Decision → Data
branch_data decisions = array (items_of (map decision_data decisions))
