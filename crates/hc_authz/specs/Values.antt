-- Whether a request is let in.
-- Apache manual, mod_authz_core: Require, RequireAll, RequireAny, RequireNone; mod_authz_host.
use Rattle.std.specs.Prelude.{ℕ, ◌==◌, List, [], ◌∷◌, Bool, true, false, ◌||◌, codes}
use Rattle.std.specs.Prelude.{if◌then◌else◌, Option, Some, None}
use Rattle.std.specs.List.{list_any}
use Rattle.std.specs.Str.{bytes_eq}
use Rattle.hc_addr.specs.Networks.{holds_in}
use Rattle.hc_addr.specs.declared.addr.Addr.{Addr}
use Rattle.hc_addr.specs.declared.addr.Addr.TheVariants.{V4, V6}
use Rattle.hc_model.specs.declared.authorization.Merging.{Merging}
use Rattle.hc_model.specs.declared.authorization.Merging.TheVariants.{Off, And, Or}
use Rattle.hc_model.specs.declared.authorization.Need.{Need}
use Rattle.hc_model.specs.declared.authorization.Need.TheVariants as need
use Rattle.hc_model.specs.declared.authorization.ReqTree.{ReqTree, fold-ReqTree}
use Rattle.hc_model.specs.declared.authorization.ReqTree.TheOpen.{ReqTree-F}
use Rattle.hc_model.specs.declared.request.Caller.{Caller}
use Rattle.hc_model.specs.declared.request.Request.{Request}
use Rattle.hc_authz.specs.declared.tree.Tri.{Tri}
use Rattle.hc_authz.specs.declared.tree.Tri.TheVariants.{Granted, Denied, Neutral}
use Rattle.hc_authz.specs.declared.needs.TheConstants.{LOOPBACK_V4, LOOPBACK_V6}

-- ---- what a line asks of the caller

-- GET and HEAD count as one.
abbrev pub method_of : List ℕ → List ℕ
method_of name = if bytes_eq name (codes "HEAD") then codes "GET" else name

abbrev pub is_method : List ℕ → List ℕ → Bool
is_method asked name = bytes_eq (method_of asked) (method_of name)

abbrev pub same_addr : Addr → Addr → Bool
same_addr (V4 a) (V4 b) = a == b
same_addr (V6 a) (V6 b) = a == b
same_addr a b = false

-- The machine itself: 127.0.0.0/8, ::1, or the address that the connection was made to.
abbrev pub is_local : Request → Bool
is_local request =
    holds_in LOOPBACK_V4 request.client
    || (holds_in LOOPBACK_V6 request.client || same_addr request.client request.server)

abbrev pub is_met : Request → Need → Bool
is_met request need.Granted = true
is_met request need.Denied = false
is_met request (need.Ip nets) = list_any (λ net. holds_in net request.client) nets
is_met request (need.Method names) = list_any (is_method request.method) names
is_met request need.Local = is_local request

-- `Require not` denies what is met, and says nothing else.
abbrev pub line_value : Bool → Bool → Tri
line_value false true = Granted
line_value false false = Denied
line_value true true = Denied
line_value true false = Neutral

-- ---- containers, by the values of their members

abbrev pub is_granted : Tri → Bool
is_granted Granted = true
is_granted _ = false

abbrev pub is_denied : Tri → Bool
is_denied Denied = true
is_denied _ = false

abbrev pub some_granted : List Tri → Bool
some_granted values = list_any is_granted values

abbrev pub some_denied : List Tri → Bool
some_denied values = list_any is_denied values

-- Of each container a table, by whether some member is granted, and whether some is denied.
abbrev pub all_value : Bool → Bool → Tri
all_value granted true = Denied
all_value true false = Granted
all_value false false = Neutral

abbrev pub any_value : Bool → Bool → Tri
any_value true denied = Granted
any_value false true = Denied
any_value false false = Neutral

abbrev pub none_value : Bool → Bool → Tri
none_value true denied = Denied
none_value false denied = Neutral

abbrev pub of_members : (Bool → Bool → Tri) → List Tri → Tri
of_members container values = container (some_granted values) (some_denied values)

-- ---- two values, joined

abbrev pub value_joined : Tri → Tri → Merging → Tri
value_joined before own Off = own
value_joined before own And = of_members all_value (before ∷ own ∷ [])
value_joined before own Or = of_members any_value (before ∷ own ∷ [])

abbrev pub value_behind : Option Tri → Tri → Merging → Tri
value_behind None own how = own
value_behind (Some before) own how = value_joined before own how

-- ---- trees

abbrev pub level_value : Caller → ReqTree-F Tri → Tri
level_value caller (ReqTree-F.Leaf place negated need) = line_value negated (is_met caller.request need)
level_value caller (ReqTree-F.All values) = of_members all_value values
level_value caller (ReqTree-F.AnyOf values) = of_members any_value values
level_value caller (ReqTree-F.NoneOf values) = of_members none_value values

abbrev pub value : Caller → ReqTree → Tri
value caller = fold-ReqTree Tri (level_value caller)
