-- Expressions as plans: split by their structure, the left part first, and the right one where the left does not
-- decide.
-- Apache manual, "Expressions in Apache HTTP Server".
use Rattle.std.specs.Prelude.{ℕ, ◌≡◌, List, [], ◌∷◌, map, Bool, true, false, not}
use Rattle.std.specs.Prelude.{codes, decimal}
use Rattle.hc_addr.specs.Addresses.{addr_of}
use Rattle.hc_dfa.specs.Texts.{TextSet}
use Rattle.hc_expr.specs.Values.{is_in}
use Rattle.hc_model.specs.declared.expression.Expr.{Expr, fold-Expr}
use Rattle.hc_model.specs.declared.expression.Expr.TheOpen.{Expr-F}
use Rattle.hc_model.specs.declared.request.Caller.{Caller}
use Rattle.hc_model.specs.declared.request.View.{View}
use Rattle.hc_model.specs.declared.template.Piece.{Piece}
use Rattle.hc_model.specs.declared.template.Piece.TheVariants as piece
use Rattle.hc_model.specs.declared.template.Var.{Var}
use Rattle.hc_model.specs.declared.template.Var.TheVariants as var
use Rattle.hc_plan.specs.Branches.{finds}
use Rattle.hc_plan.specs.Plan.{Item, Plan, client, compare, literal, put_down, take_up, test}
use Rattle.hc_plan.specs.Running.{State, item_text}
use Rattle.hc_plan.specs.Slots.{Slot}
use Rattle.hc_rw_eval.specs.Conditions.{counted}
use Rattle.hc_table.specs.declared.variable.Variable.{Variable}
use Rattle.hc_table.specs.declared.variable.Variable.TheVariants as variable
use Rattle.hc_template.specs.Variables.{header_value, host_with_port, on_off, scheme_name}
use Rattle.hc_abs_rw.specs.Conditions.{counted_set}
use Rattle.hc_abs_rw.specs.Templates.{header_slot, main, second, slot_item}

-- What all requests have in common, and what stands for the query: its slot, or a text that is held.
pub record Scene : Type 0 where
  pub caller : Caller
  pub query : Item

-- ---- texts

-- What an expression may not name has no value there.
abbrev pub named_item : Scene → Variable → Item
named_item scene variable.RequestUri = slot_item Slot.Path
named_item scene variable.RequestFilename = slot_item Slot.Name
named_item scene variable.QueryString = scene.query
named_item scene variable.RequestMethod = slot_item Slot.Method
named_item scene variable.RequestScheme = literal (scheme_name scene.caller.request.scheme)
named_item scene variable.Https = literal (on_off scene.caller.request.scheme)
named_item scene variable.HttpHost = literal (host_with_port scene.caller.request)
named_item scene variable.HttpUserAgent = slot_item (header_slot (codes "User-Agent"))
named_item scene variable.HttpReferer = slot_item (header_slot (codes "Referer"))
named_item scene variable.RemoteAddr = client
named_item scene variable.ServerName = literal scene.caller.name
named_item scene variable.ServerPort = literal (decimal scene.caller.request.port)
named_item scene other = literal []

abbrev pub view_item : Scene → Var → Item
view_item scene (var.Header name) = slot_item (header_slot name)
view_item scene (var.Env name) = literal []
view_item scene (var.Named named) = named_item scene named

abbrev pub piece_item : Scene → Piece → Item
piece_item scene (piece.Bytes bytes) = literal bytes
piece_item scene (piece.Group number) = literal []
piece_item scene (piece.CondGroup number) = literal []
piece_item scene (piece.Var var) = view_item scene var
piece_item scene (piece.Lookup' name key keys fallback fallbacks) = literal []

abbrev pub view_items : Scene → List Piece → List Item
view_items scene pieces = map (piece_item scene) pieces

-- ---- tests

-- An expression with negation counted or not, and what follows by whether it holds so.
abbrev pub Ways : Type 0 → Type 0
Ways A = Bool → (Bool → Plan A) → Plan A

abbrev pub tested : {A : Type 0} → Scene → List Piece → TextSet → Ways A
tested scene pieces set negated plan =
    take_up main (view_items scene pieces) (test main (counted_set negated set) (λ is. put_down (plan is)))

abbrev pub compared : {A : Type 0} → Scene → List Piece → List Piece → Ways A
compared scene left right negated plan =
    take_up main (view_items scene left) (take_up second (view_items scene right)
    (compare main second (not negated) (λ is. put_down (plan is))))

-- ---- expressions

abbrev pub is_same : Bool → Bool → Bool
is_same true is = is
is_same false is = not is

-- The left part decides where it comes to this.
abbrev pub left_first : {A : Type 0} → Bool → Ways A → Ways A → Ways A
left_first decides left right negated plan = left negated (λ is. elim (is_same (counted negated decides) is) [
  | true ↦ plan is
  | false ↦ right negated plan
])

abbrev pub level_ways : {A : Type 0} → Scene → Expr-F (Ways A) → Ways A
level_ways scene Expr-F.Yes negated plan = put_down (plan (counted negated true))
level_ways scene Expr-F.No negated plan = put_down (plan (counted negated false))
level_ways scene (Expr-F.Not ways) negated plan = ways (not negated) plan
level_ways scene (Expr-F.And left right) negated plan = left_first false left right negated plan
level_ways scene (Expr-F.Or left right) negated plan = left_first true left right negated plan
level_ways scene (Expr-F.Same left right) negated plan = compared scene left right negated plan
level_ways scene (Expr-F.Search left pattern) negated plan = tested scene left (finds pattern) negated plan
level_ways scene (Expr-F.IpMatch left net) negated plan = tested scene left (λ x. is_in net (addr_of x)) negated plan

abbrev pub ways_of : {A : Type 0} → Scene → Expr → Ways A
ways_of {A} scene = fold-Expr (Ways A) (level_ways scene)

-- ---- requests

-- The slots have what an expression sees, and the scene what all requests have in common.
pub record Sees (scene : Scene) (view : View) (state : State) : Type 0 where
  pub path : state.slots Slot.Path ≡ view.path
  pub name : state.slots Slot.Name ≡ view.name
  pub query : item_text state scene.query ≡ view.query
  pub method : state.slots Slot.Method ≡ view.caller.request.method
  pub headers : (name : List ℕ) → state.slots (header_slot name) ≡ header_value view.caller.request.headers name
  pub client : state.client ≡ view.caller.request.client
  pub scheme : scene.caller.request.scheme ≡ view.caller.request.scheme
  pub host : host_with_port scene.caller.request ≡ host_with_port view.caller.request
  pub server : scene.caller.name ≡ view.caller.name
  pub port : scene.caller.request.port ≡ view.caller.request.port
