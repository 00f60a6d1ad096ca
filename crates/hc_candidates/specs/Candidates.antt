-- Requests that may show what is known of a set of requests. Our own choice.
use Rattle.std.specs.Prelude.{◌≡◌, ◌⊎◌, ℕ, List, [], ◌∷◌, ◌++◌, map, filter, bit_and, Option, None, Some}
use Rattle.std.specs.List.{find}
use Rattle.hc_addr.specs.declared.addr.Addr.{Addr}
use Rattle.hc_addr.specs.declared.addr.Addr.TheVariants.{V4, V6}
use Rattle.hc_addr.specs.declared.net.Net.{Net}
use Rattle.hc_base.specs.Bytes.{question}
use Rattle.hc_cells.specs.Cells.{Sets, holds, set_at}
use Rattle.hc_cells.specs.declared.slot.Slot.TheVariants as slot
use Rattle.hc_dfa.specs.Automata.{Automaton, accepts}
use Rattle.hc_dfa.specs.Built.{AreFirst}
use Rattle.hc_dfa.specs.Texts.{IsLeastOf}
use Rattle.hc_members.specs.Requests.{is_of_scope}
use Rattle.hc_model.specs.declared.request.Header.{Header}
use Rattle.hc_model.specs.declared.request.Request.{Request}
use Rattle.hc_scope.specs.declared.claim.Scope.{Scope}
use Rattle.hc_target.specs.Escapes.{escaped}
use Rattle.hc_candidates.specs.declared.picking.Common.{Common}
use Rattle.hc_candidates.specs.declared.picking.TheConstants.{MOST_CANDIDATES}

-- The least address of a network.
abbrev pub least_at : Addr → ℕ → Addr
least_at (V4 own) mask = V4 (bit_and own mask)
least_at (V6 own) mask = V6 (bit_and own mask)

abbrev pub least_client : Net → Addr
least_client net = least_at net.addr net.mask

-- An empty query is left out.
abbrev pub target_of : List ℕ → List ℕ → List ℕ
target_of [] path = escaped path
target_of (b ∷ query) path = escaped path ++ question ∷ b ∷ query

-- A header with its least value; one that may be empty is left out.
abbrev pub header_by : List ℕ → Option (List ℕ) → List Header
header_by name None = []
header_by name (Some []) = []
header_by name (Some (b ∷ value)) = record { name = name; value = b ∷ value } ∷ []

abbrev pub AreLeast : Sets → List (List ℕ) → List Header → Type 0
AreLeast sets [] headers = headers ≡ []
AreLeast sets (name ∷ names) headers =
    (least : Option (List ℕ)) × (rest : List Header) × IsLeastOf (holds sets (slot.Header name)) least
    × (headers ≡ header_by name least ++ rest) × AreLeast sets names rest

-- What the candidates have in common: the first method of the scope that the slot has, and the least query.
pub record IsCommon (scope : Scope) (names : List (List ℕ)) (sets : Sets) (common : Common) : Type 0 where
  pub method : find (holds sets slot.Method) scope.methods ≡ Some common.method
  pub query : IsLeastOf (holds sets slot.FirstQuery) (Some common.query)
  pub headers : AreLeast sets names common.headers

-- A method or a query has no text.
abbrev pub HasNone : Scope → Sets → Type 0
HasNone scope sets = (find (holds sets slot.Method) scope.methods ≡ None) ⊎ IsLeastOf (holds sets slot.FirstQuery) None

abbrev pub IsCommonOf : Scope → List (List ℕ) → Sets → Option Common → Type 0
IsCommonOf scope names sets None = HasNone scope sets
IsCommonOf scope names sets (Some common) = IsCommon scope names sets common

abbrev pub request_with : Scope → Common → List ℕ → Request
request_with scope common path = record {
  method = common.method;
  scheme = scope.scheme;
  server = scope.server;
  port = scope.port;
  host = scope.host;
  client = least_client scope.client;
  headers = common.headers;
  target = target_of common.query path;
}

-- A request that is none of the scope is passed over.
abbrev pub ArePicked : Scope → Common → Automaton → List Request → Type 0
ArePicked scope common origins found = (paths : List (List ℕ)) × AreFirst (accepts origins) MOST_CANDIDATES paths
    × (found ≡ filter (is_of_scope scope) (map (request_with scope common) paths))

-- Where the slot `origin` may have any text, there is no candidate, nor where a method or a query has none.
abbrev pub AreCandidatesOf : Scope → List (List ℕ) → Sets → Option Automaton → List Request → Type 0
AreCandidatesOf scope names sets None found = found ≡ []
AreCandidatesOf scope names sets (Some origins) found =
    ((common : Common) × IsCommon scope names sets common × ArePicked scope common origins found)
    ⊎ (HasNone scope sets × (found ≡ []))

abbrev pub AreCandidates : Scope → List (List ℕ) → Sets → List Request → Type 0
AreCandidates scope names sets found = AreCandidatesOf scope names sets (set_at sets slot.Origin) found
