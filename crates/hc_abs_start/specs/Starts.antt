-- What is known of the requests of a scope before their first pass. Our own choice.
use Rattle.std.specs.Prelude.{◌≡◌, ℕ, ◌==◌, ◌&&◌, List, [], Bool, true, false, Option, None, Some}
use Rattle.std.specs.Prelude.{if◌then◌else◌}
use Rattle.std.specs.List.{list_all}
use Rattle.hc_addr.specs.Networks.{front_mask}
use Rattle.hc_addr.specs.declared.addr.Addr.{Addr}
use Rattle.hc_addr.specs.declared.addr.Addr.TheVariants.{V4, V6}
use Rattle.hc_addr.specs.declared.net.Net.{Net}
use Rattle.hc_addr.specs.declared.sizes.TheConstants.{V4_BITS, V6_BITS}
use Rattle.hc_dfa.specs.Automata.{accepts}
use Rattle.hc_dfa.specs.Texts.{TextSet}
use Rattle.hc_forms.specs.Forms.{is_target_byte, is_value_byte}
use Rattle.hc_members.specs.Requests.{is_listed, is_of_scope}
use Rattle.hc_model.specs.declared.config.Config.{Config}
use Rattle.hc_model.specs.declared.config.HostId.{HostId}
use Rattle.hc_model.specs.declared.request.Request.{Request}
use Rattle.hc_plan.specs.Branches.{no_text}
use Rattle.hc_plan.specs.Cover.{Covers}
use Rattle.hc_plan.specs.Hands.{cell_of}
use Rattle.hc_plan.specs.Running.{State}
use Rattle.hc_plan.specs.Slots.{Slot, Ties, put}
use Rattle.hc_plan.specs.States.{AbsState, this}
use Rattle.hc_plan.specs.Texts.{all_three, any, of_bytes}
use Rattle.hc_plan.specs.declared.storing.Tied.{Tied}
use Rattle.hc_scope.specs.Clients.{clients_of, fits}
use Rattle.hc_scope.specs.declared.claim.Scope.{Scope}
use Rattle.hc_serve.specs.ServerRules.{context_at, pass_at, state_at}
use Rattle.hc_serve.specs.Site.{Site, site_at}
use Rattle.hc_serve.specs.declared.stage.Pass.{Pass}
use Rattle.hc_target.specs.Segments.{is_normal}
use Rattle.hc_target.specs.Targets.{read}
use Rattle.hc_target.specs.declared.target.TargetRead.TheVariants.{Path}
use Rattle.hc_abs_pass.specs.Ends.{MeetsPass}
use Rattle.hc_abs_pass.specs.Walks.{is_empty}
use Rattle.hc_abs_restart.specs.Restarted.{is_among}
use Rattle.hc_abs_rw.specs.Known.{client_given}
use Rattle.hc_abs_rw.specs.Standing.{started}

-- ---- sets

-- Normal paths of the scope.
abbrev pub is_path : Scope → TextSet
is_path scope path = is_normal path && accepts scope.path path

-- Queries of the scope, of the bytes that a target may have.
abbrev pub is_query : Scope → TextSet
is_query scope query = list_all is_target_byte query && accepts scope.query query

abbrev pub where_looked : Bool → TextSet → TextSet
where_looked true set = set
where_looked false set = any

-- The set of each slot. The path is rewritten; no file is found yet, and no variable is set. What isn't looked at
-- may be anything.
abbrev pub first_set : Scope → (List ℕ → Bool) → (List ℕ → Bool) → Slot → TextSet
first_set scope variables headers Slot.Origin = is_path scope
first_set scope variables headers Slot.Path = is_path scope
first_set scope variables headers Slot.Text = is_path scope
first_set scope variables headers Slot.Query = is_query scope
first_set scope variables headers Slot.FirstQuery = is_query scope
first_set scope variables headers Slot.Name = is_empty
first_set scope variables headers Slot.Info = is_empty
first_set scope variables headers Slot.End = is_empty
first_set scope variables headers Slot.Location = is_empty
first_set scope variables headers Slot.Method = is_listed scope.methods
first_set scope variables headers Slot.Request = any
first_set scope variables headers (Slot.Env name) = where_looked (variables name) is_empty
first_set scope variables headers (Slot.Header name) = where_looked (headers name) (list_all is_value_byte)

-- The path is the target's, and so are the text and the query.
abbrev pub first_ties : Ties
first_ties = record { origin_path = true; text_path = true; text_name = false; query_first = true }

abbrev pub first_cell : Scope → List (List ℕ) → List (List ℕ) → Slot → TextSet
first_cell scope variables headers slot = of_bytes (first_set scope (is_among variables) (is_among headers) slot)

pub record IsStart (scope : Scope) (variables headers : List (List ℕ)) (tied : Tied) : Type 0 where
  pub cell : cell_of tied.cell ≡ first_cell scope variables headers
  pub ties : tied.ties ≡ first_ties

-- ---- the client

abbrev pub whole_mask : Addr → ℕ
whole_mask (V4 own) = front_mask V4_BITS V4_BITS
whole_mask (V6 own) = front_mask V6_BITS V6_BITS

-- A mask that leaves no other address of the family.
abbrev pub is_whole : Addr → ℕ → Bool
is_whole addr mask = fits addr && (mask == whole_mask addr)

-- A network of one address.
abbrev pub sole_client : Net → Option Addr
sole_client net = if is_whole net.addr net.mask then Some net.addr else None

-- What is known of the requests of a scope, where nothing is held and no text is in hand.
abbrev pub known_of : Scope → List (List ℕ) → List (List ℕ) → AbsState
known_of scope variables headers = record {
  cell = first_cell scope variables headers;
  ties = first_ties;
  given = all_three (λ at. this []);
  texts = all_three no_text;
  clients = clients_of scope.client;
  printed = client_given (sole_client scope.client);
}

-- ---- requests

-- The slots of a request before a pass in which no file is found yet.
abbrev pub first_state : Site → Pass → State
first_state site pass =
    let own = started (context_at site pass) (state_at pass) in record own { slots = put Slot.Name [] own.slots }

-- The first pass of a request.
abbrev pub first_of : List ℕ → List ℕ → Pass
first_of path query = pass_at 0 path query [] false

abbrev pub EachBegins : Type 0
EachBegins = (config : Config) (host : HostId) (scope : Scope) (request : Request) (path query : List ℕ)
    (variables headers : List (List ℕ))
    → is_of_scope scope request ≡ true → read request.target ≡ Path path query
    → MeetsPass (site_at config host request) (first_of path query)
    (first_state (site_at config host request) (first_of path query))
    × Covers (known_of scope variables headers) (first_state (site_at config host request) (first_of path query))
