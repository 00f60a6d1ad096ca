-- What a command of the code is seen as.
use Rattle.std.specs.Prelude.{◌≡◌, ℕ, List, [], ◌∷◌, true, Option, Some, None, Result, Ok, Err, String, ⊤}
use Rattle.std.specs.Prelude.{Vec, codes, option_map}
use Rattle.std.specs.Borrow.{Bor}
use Rattle.std.specs.declared.alloc.Global.{Global}
use Rattle.serde_json.specs.Data.{Data}
use Rattle.serde_json.specs.View.{items_view, members_view, view}
use Rattle.serde_json.specs.declared.value.Value.{Value}
use Rattle.std.specs.BTreeMap.{BTreeMap}
use Rattle.hc_base.specs.Paths.{begins_with_slash}
use Rattle.hc_base.specs.declared.codes.TheConstants.{BAD_COMMAND, BAD_JSON}
use Rattle.hc_base.specs.declared.place.Place.{Place}
use Rattle.hc_base.specs.declared.place.Refusal.{Refusal}
use Rattle.hc_model.specs.declared.request.Header.{Header}
use Rattle.hc_model.specs.declared.request.Request.{Request}
use Rattle.hc_json.specs.Asked.{Question}
use Rattle.hc_json.specs.Cells as cells
use Rattle.hc_json.specs.Cells.{cells_of, slots_of}
use Rattle.hc_json.specs.Claims as claims
use Rattle.hc_json.specs.Claims.{methods_of}
use Rattle.hc_json.specs.Command as spec
use Rattle.hc_json.specs.Forms.{headers_of}
use Rattle.hc_json.specs.Hosts as hosts
use Rattle.hc_json.specs.Hosts.{hosts_of}
use Rattle.hc_json.specs.declared.asked.Asked.{Asked}
use Rattle.hc_json.specs.declared.asked.RequestForm.{RequestForm}
use Rattle.hc_json.specs.declared.cells.CellForm.{CellForm}
use Rattle.hc_json.specs.declared.cells.CutForm.{CutForm}
use Rattle.hc_json.specs.declared.cells.CutForm.TheVariants as cut
use Rattle.hc_json.specs.declared.claim.ClaimForm.{ClaimForm}
use Rattle.hc_json.specs.declared.claim.ClaimForm.TheVariants as form
use Rattle.hc_json.specs.declared.claim.PlaceForm.{PlaceForm}
use Rattle.hc_json.specs.declared.fields.BadField.{BadField}
use Rattle.hc_json.specs.declared.hosts.HostForm.{HostForm}
use Rattle.hc_json.specs.declared.scope.ScopeForm.{ScopeForm}
use Rattle.hc_json.specs.declared.slots.SlotForm.{SlotForm}
use Rattle.hc_json.specs.declared.slots.SlotForm.TheVariants as slot
use Rattle.hc_json.specs.declared.command.Command.{Command}
use Rattle.hc_json.specs.declared.command.NoCommand.{NoCommand}
use Rattle.hc_json.specs.declared.command.NoCommand.TheVariants as wrong
use Rattle.hc_json.specs.declared.command.Command.TheVariants.{Put, ListPath, DropPath, Edit, Main, Check, Ask, Stats}
use Rattle.hc_json.specs.declared.command.Command.TheVariants.{Decide, End, Ends, Follow, Verify}

abbrev pub headers_view : Option (Bor (BTreeMap (String Global) Value)) → List Header
headers_view None = []
headers_view (Some members) = headers_of (members_view members.now.entries)

abbrev pub request_view : RequestForm → Request
request_view request = record {
  method = request.method.now;
  scheme = request.scheme;
  server = request.server;
  port = request.port;
  host = request.host.now;
  client = request.client;
  headers = headers_view request.headers;
  target = request.target.now;
}

abbrev pub question_view : Asked → Question
question_view asked = record { request = request_view asked.request; trail = asked.trail }

abbrev pub host_view : HostForm → hosts.HostForm
host_view host = record { scheme = host.scheme; host = host.host.now; port = host.port }

abbrev pub place_view : PlaceForm → Place
place_view place = record { file = place.file.now; line = place.line }

abbrev pub claim_view : ClaimForm → claims.ClaimForm
claim_view form.Stops = claims.stops
claim_view (form.Shadowed place) = claims.shadowed (place_view place)
claim_view (form.Guarded target by) = claims.guarded (view target.now) (place_view by)

abbrev pub methods_view : Option (Bor (Vec Value Global)) → List (List ℕ)
methods_view None = codes "GET" ∷ []
methods_view (Some values) = methods_of (items_view values.now.items)

abbrev pub set_view : Option (Bor Value) → Option Data
set_view set = option_map (λ own. view own.now) set

abbrev pub scope_view : ScopeForm → claims.ScopeForm
scope_view scope = record {
  scheme = scope.scheme;
  server = scope.server;
  port = scope.port;
  host = scope.host.now;
  client = scope.client;
  methods = methods_view scope.methods;
  path = set_view scope.path;
  query = set_view scope.query;
}

abbrev pub cut_view : CutForm → cells.CutForm
cut_view cut.Pass = cells.pass
cut_view cut.Server = cells.server
cut_view (cut.Dir path) = cells.dir path.now

abbrev pub slot_view : SlotForm → cells.SlotForm
slot_view slot.Origin = cells.origin
slot_view slot.Path = cells.path
slot_view slot.Query = cells.query
slot_view slot.Text = cells.text
slot_view slot.Name = cells.name
slot_view slot.Info = cells.info
slot_view slot.End = cells.end
slot_view slot.Method = cells.method
slot_view slot.Request = cells.request
slot_view (slot.Env name) = cells.env name.now
slot_view (slot.Header name) = cells.header name.now

abbrev pub cell_view : CellForm → cells.CellForm
cell_view cell = record {
  at = cut_view cell.at;
  rank = cell.rank;
  round = cell.round;
  slots = slots_of (members_view cell.slots.now.entries);
}

abbrev pub command_view : Command → spec.Command
command_view (Put path bytes) = spec.put path.now bytes.now
command_view (ListPath path kind) = spec.list path.now kind
command_view (DropPath path) = spec.drop path.now
command_view (Edit path from to bytes) = spec.edit path.now from to bytes.now
command_view (Main path) = spec.main path.now
command_view Check = spec.check
command_view (Ask asked) = spec.ask (question_view asked)
command_view (Follow request values) = spec.follow (request_view request) (hosts_of (items_view values.now.items))
command_view (Decide claim scope) = spec.decide (claim_view claim) (scope_view scope)
command_view (Ends values scope) = spec.ends (hosts_of (items_view values.now.items)) (scope_view scope)
command_view (Verify claim scope values) =
    spec.verify (claim_view claim) (scope_view scope) (cells_of (items_view values.now.items))
command_view Stats = spec.stats
command_view End = spec.end

-- The target of an `ask` and of a `follow` begins with a slash.
abbrev pub IsAskable : Command → Type 0
IsAskable (Ask asked) = begins_with_slash (asked.request).target.now ≡ true
IsAskable (Follow request hosts) = begins_with_slash request.target.now ≡ true
IsAskable command = ⊤

-- Why a line is no command, as the refusal that it is answered with.
abbrev pub no_command_view : NoCommand → Refusal
no_command_view wrong.BadJson = spec.bad_line BAD_JSON []
no_command_view (wrong.BadField field) = spec.bad_line BAD_COMMAND field.now

abbrev pub line_view : Result Command NoCommand → Result spec.Command Refusal
line_view (Ok command) = Ok (command_view command)
line_view (Err wrong) = Err (no_command_view wrong)

-- ---- what is read, or the wrong field

abbrev pub read_view : Result Command BadField → Result spec.Command (List ℕ)
read_view (Ok command) = Ok (command_view command)
read_view (Err bad) = Err bad.0.now

abbrev pub asked_view : Result Asked BadField → Result Question (List ℕ)
asked_view (Ok asked) = Ok (question_view asked)
asked_view (Err bad) = Err bad.0.now

abbrev pub request_field_view : Result RequestForm BadField → Result Request (List ℕ)
request_field_view (Ok request) = Ok (request_view request)
request_field_view (Err bad) = Err bad.0.now

abbrev pub host_field_view : Result HostForm BadField → Result hosts.HostForm (List ℕ)
host_field_view (Ok host) = Ok (host_view host)
host_field_view (Err bad) = Err bad.0.now

abbrev pub hosts_field_view : Result (Bor (Vec Value Global)) BadField → Result (List hosts.HostForm) (List ℕ)
hosts_field_view (Ok values) = Ok (hosts_of (items_view values.now.items))
hosts_field_view (Err bad) = Err bad.0.now

abbrev pub place_field_view : Result PlaceForm BadField → Result Place (List ℕ)
place_field_view (Ok place) = Ok (place_view place)
place_field_view (Err bad) = Err bad.0.now

abbrev pub claim_field_view : Result ClaimForm BadField → Result claims.ClaimForm (List ℕ)
claim_field_view (Ok claim) = Ok (claim_view claim)
claim_field_view (Err bad) = Err bad.0.now

abbrev pub scope_field_view : Result ScopeForm BadField → Result claims.ScopeForm (List ℕ)
scope_field_view (Ok scope) = Ok (scope_view scope)
scope_field_view (Err bad) = Err bad.0.now

abbrev pub methods_field_view : Result (Option (Bor (Vec Value Global))) BadField → Result (List (List ℕ)) (List ℕ)
methods_field_view (Ok methods) = Ok (methods_view methods)
methods_field_view (Err bad) = Err bad.0.now

abbrev pub cut_field_view : Result CutForm BadField → Result cells.CutForm (List ℕ)
cut_field_view (Ok at) = Ok (cut_view at)
cut_field_view (Err bad) = Err bad.0.now

abbrev pub slots_field_view :
    Result (Bor (BTreeMap (String Global) Value)) BadField → Result (List (cells.SlotForm × Data)) (List ℕ)
slots_field_view (Ok members) = Ok (slots_of (members_view members.now.entries))
slots_field_view (Err bad) = Err bad.0.now

abbrev pub cell_field_view : Result CellForm BadField → Result cells.CellForm (List ℕ)
cell_field_view (Ok cell) = Ok (cell_view cell)
cell_field_view (Err bad) = Err bad.0.now

abbrev pub cells_field_view : Result (Bor (Vec Value Global)) BadField → Result (List cells.CellForm) (List ℕ)
cells_field_view (Ok values) = Ok (cells_of (items_view values.now.items))
cells_field_view (Err bad) = Err bad.0.now

abbrev pub field_view : Result (Bor (List ℕ)) BadField → Result (List ℕ) (List ℕ)
field_view (Ok text) = Ok text.now
field_view (Err bad) = Err bad.0.now

abbrev pub members_field_view :
    Result (Option (Bor (BTreeMap (String Global) Value))) BadField → Result (List Header) (List ℕ)
members_field_view (Ok members) = Ok (headers_view members)
members_field_view (Err bad) = Err bad.0.now

abbrev pub value_view : {A : Type 0} → Result A BadField → Result A (List ℕ)
value_view (Ok value) = Ok value
value_view (Err bad) = Err bad.0.now
