-- What a `decide` states: a claim, and the scope of the requests of which it is claimed. Sets of texts are still
-- values. Our own choice.
use Rattle.std.specs.Prelude.{ℕ, List, [], ◌∷◌, Bool, true, false, ◌&&◌, if◌then◌else◌, is_some}
use Rattle.std.specs.Prelude.{Option, Some, None, option_and_then, option_map, unwrap_or, Result, Ok, Err, codes}
use Rattle.std.specs.Result.{result_ok}
use Rattle.std.specs.Str.{bytes_eq}
use Rattle.serde_json.specs.Data.{Data, Items, no_items, item}
use Rattle.serde_json.specs.Find.{as_array, as_object, as_str, get}
use Rattle.hc_addr.specs.Networks.{net_of}
use Rattle.hc_addr.specs.declared.addr.Addr.{Addr}
use Rattle.hc_addr.specs.declared.addr.Addr.TheVariants.{V4}
use Rattle.hc_addr.specs.declared.net.Net.{Net}
use Rattle.hc_base.specs.declared.place.Place.{Place}
use Rattle.hc_forms.specs.Forms.{is_method}
use Rattle.hc_model.specs.declared.request.Scheme.{Scheme}
use Rattle.hc_json.specs.Asked.{host_in, port_in, scheme_in, server_in}
use Rattle.hc_json.specs.Fields.{no_other, optional, required, wanted, ◌>>=◌}
use Rattle.hc_json.specs.Forms.{line_in, such_that}

-- What is claimed. The line that it speaks of has a place.
pub data ClaimForm : Type 0 where
  stops : ClaimForm
  shadowed : Place → ClaimForm
  -- the set of file names
  guarded : Data → Place → ClaimForm

-- Which requests it is claimed of. A set that isn't there has all texts.
pub record ScopeForm : Type 0 where
  pub scheme : Scheme
  pub server : Addr
  pub port : ℕ
  pub host : List ℕ
  pub client : Net
  pub methods : List (List ℕ)
  pub path : Option Data
  pub query : Option Data

-- Whatever is wrong within a field of the command, that field is the wrong one.
abbrev pub blaming : {A : Type 0} → List ℕ → Result A (List ℕ) → Result A (List ℕ)
blaming key (Ok found) = Ok found
blaming key (Err inner) = Err key

-- ---- the claim

abbrev pub place_in : Data → Result Place (List ℕ)
place_in d =
    required (codes "file") d >>= λ file.
    line_in (codes "line") d >>= λ line.
    Ok (record { file = file; line = line })

abbrev pub shadowed_in : Data → Result ClaimForm (List ℕ)
shadowed_in d = place_in d >>= λ place. Ok (shadowed place)

abbrev pub guarded_in : Data → Result ClaimForm (List ℕ)
guarded_in d = wanted (codes "target") Some d >>= λ target. place_in d >>= λ by. Ok (guarded target by)

abbrev pub claim_named : List ℕ → Data → Result ClaimForm (List ℕ)
claim_named kind d =
    if bytes_eq kind (codes "stops") then no_other (codes "kind" ∷ []) d (Ok stops)
    else (if bytes_eq kind (codes "shadowed")
    then no_other (codes "kind" ∷ codes "file" ∷ codes "line" ∷ []) d (shadowed_in d)
    else (if bytes_eq kind (codes "guarded")
    then no_other (codes "kind" ∷ codes "target" ∷ codes "file" ∷ codes "line" ∷ []) d (guarded_in d)
    else Err (codes "kind")))

abbrev pub claim_from : Data → Result ClaimForm (List ℕ)
claim_from d = required (codes "kind") d >>= λ kind. claim_named kind d

abbrev pub claim_in : Data → Result ClaimForm (List ℕ)
claim_in d = wanted (codes "claim") Some d >>= λ own. blaming (codes "claim") (claim_from own)

-- ---- the scope

-- JSON that is a text, and the network that it writes.
abbrev pub net_from : Data → Option Net
net_from d = option_and_then (λ text. result_ok (net_of text)) (as_str d)

-- Every IPv4 address.
abbrev pub any_client : Net
any_client = record { addr = V4 0; mask = 0 }

abbrev pub client_in : Data → Result Net (List ℕ)
client_in d = optional (codes "client") any_client net_from d

abbrev pub is_method_text : Option (List ℕ) → Bool
is_method_text None = false
is_method_text (Some text) = is_method text

abbrev pub all_methods : Items → Bool
all_methods no_items = true
all_methods (item d ds) = is_method_text (as_str d) && all_methods ds

abbrev pub are_methods : Items → Bool
are_methods no_items = false
are_methods (item d ds) = all_methods (item d ds)

abbrev pub methods_of : Items → List (List ℕ)
methods_of no_items = []
methods_of (item d ds) = unwrap_or (as_str d) [] ∷ methods_of ds

-- At least one, each of its form.
abbrev pub methods_from : Data → Option (List (List ℕ))
methods_from d = option_map methods_of (such_that are_methods (as_array d))

abbrev pub methods_in : Data → Result (List (List ℕ)) (List ℕ)
methods_in d = optional (codes "methods") (codes "GET" ∷ []) methods_from d

abbrev pub scope_fields : List (List ℕ)
scope_fields =
    codes "scheme" ∷ codes "server" ∷ codes "port" ∷ codes "host" ∷ codes "client" ∷ codes "methods" ∷ codes "path"
    ∷ codes "query" ∷ []

abbrev pub fields_of_scope : Data → Result ScopeForm (List ℕ)
fields_of_scope d =
    scheme_in d >>= λ scheme.
    server_in d >>= λ server.
    port_in scheme d >>= λ port.
    host_in d >>= λ host.
    client_in d >>= λ client.
    methods_in d >>= λ methods.
    Ok (record {
      scheme = scheme;
      server = server;
      port = port;
      host = host;
      client = client;
      methods = methods;
      path = get (codes "path") d;
      query = get (codes "query") d;
    })

abbrev pub is_object : Data → Bool
is_object d = is_some (as_object d)

abbrev pub object_from : Data → Option Data
object_from d = if is_object d then Some d else None

abbrev pub scope_in : Data → Result ScopeForm (List ℕ)
scope_in d =
    wanted (codes "scope") object_from d >>= λ own.
    blaming (codes "scope") (no_other scope_fields own (fields_of_scope own))
