-- The requests of a scope. Our own choice.
use Rattle.std.specs.Prelude.{ℕ, ◌==◌, List, [], ◌∷◌, Bool, true, false, ◌&&◌, not}
use Rattle.std.specs.BTreeSet.{contains, insert_key}
use Rattle.std.specs.Cmp.Lexicographic.{slice_cmp}
use Rattle.std.specs.List.{list_any}
use Rattle.std.specs.Ordering.{nat_cmp}
use Rattle.std.specs.Str.{bytes_eq, str_to_ascii_lowercase}
use Rattle.hc_addr.specs.declared.addr.Addr.{Addr}
use Rattle.hc_addr.specs.declared.addr.Addr.TheVariants.{V4, V6}
use Rattle.hc_dfa.specs.Automata.{accepts}
use Rattle.hc_forms.specs.Forms.{is_method, is_name, is_target, is_value}
use Rattle.hc_model.specs.declared.request.Header.{Header}
use Rattle.hc_model.specs.declared.request.Request.{Request}
use Rattle.hc_model.specs.declared.request.Scheme.{Scheme}
use Rattle.hc_model.specs.declared.request.Scheme.TheVariants.{Http, Https}
use Rattle.hc_scope.specs.Clients.{clients_of}
use Rattle.hc_scope.specs.declared.claim.Scope.{Scope}
use Rattle.hc_target.specs.Targets.{read}
use Rattle.hc_target.specs.declared.target.TargetRead.{TargetRead}
use Rattle.hc_target.specs.declared.target.TargetRead.TheVariants.{Path}

-- ---- what the connection says

abbrev pub same_scheme : Scheme → Scheme → Bool
same_scheme Http Http = true
same_scheme Https Https = true
same_scheme one other = false

abbrev pub same_addr : Addr → Addr → Bool
same_addr (V4 one) (V4 other) = one == other
same_addr (V6 one) (V6 other) = one == other
same_addr one other = false

abbrev pub is_asked : Scope → Request → Bool
is_asked scope request = same_scheme scope.scheme request.scheme && same_addr scope.server request.server
    && (scope.port == request.port) && bytes_eq scope.host request.host

-- ---- what it sends

-- Among these names, which stand in order.
abbrev pub is_taken : List (List ℕ) → List ℕ → Bool
is_taken names name = contains (slice_cmp nat_cmp) (record { keys = names }) name

-- Each is a header, and no two names are equal without case: put one after another in lower case into the ordered set
-- of those before, none is there already.
abbrev pub are_headers : List (List ℕ) → List Header → Bool
are_headers names [] = true
are_headers names (header ∷ rest) =
    is_name header.name && is_value header.value && not (is_taken names (str_to_ascii_lowercase header.name))
    && are_headers (insert_key (slice_cmp nat_cmp) names (str_to_ascii_lowercase header.name)) rest

abbrev pub is_listed : List (List ℕ) → List ℕ → Bool
is_listed methods method = list_any (bytes_eq method) methods

-- The target is read as a path and a query of the scope.
abbrev pub reads_within : Scope → TargetRead → Bool
reads_within scope (Path path query) = accepts scope.path path && accepts scope.query query
reads_within scope other = false

-- The request is well-formed, and of the scope. Any headers are.
unfoldable pub is_of_scope : Scope → Request → Bool
is_of_scope scope request = is_asked scope request && clients_of scope.client request.client
    && (is_method request.method && is_listed scope.methods request.method) && are_headers [] request.headers
    && (is_target request.target && reads_within scope (read request.target))

-- ---- what all have in common

abbrev pub common_request : Scope → Request
common_request scope = record {
  method = [];
  scheme = scope.scheme;
  server = scope.server;
  port = scope.port;
  host = scope.host;
  client = V4 0;
  headers = [];
  target = [];
}
