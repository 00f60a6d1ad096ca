-- The variables that a text may name, and their values.
-- Apache manual, mod_rewrite, RewriteCond; "Expressions in Apache HTTP Server". Which of them an expression may name is
-- our own choice.
use Rattle.std.specs.Prelude.{ℕ, ◌+◌, ◌==◌, List, [], ◌∷◌, ◌++◌, take, drop, Bool, true, false}
use Rattle.std.specs.Prelude.{Option, Some, None}
use Rattle.std.specs.Prelude.{option_map, unwrap_or, codes, decimal, if◌then◌else◌}
use Rattle.std.specs.List.{find, position}
use Rattle.std.specs.Str.{str_eq_ignore_ascii_case}
use Rattle.hc_addr.specs.Numbers.{is_colon}
use Rattle.hc_addr.specs.Printed.{printed}
use Rattle.hc_base.specs.Bytes.{colon}
use Rattle.hc_model.specs.declared.request.Caller.{Caller}
use Rattle.hc_model.specs.declared.request.Header.{Header}
use Rattle.hc_model.specs.declared.request.Request.{Request}
use Rattle.hc_model.specs.declared.request.Scheme.{Scheme}
use Rattle.hc_model.specs.declared.request.Scheme.TheVariants.{Http, Https}
use Rattle.hc_model.specs.declared.request.View.{View}
use Rattle.hc_model.specs.declared.template.Var.{Var}
use Rattle.hc_model.specs.declared.template.Var.TheVariants as var
use Rattle.hc_table.specs.Table.{find_in}
use Rattle.hc_table.specs.Variables.{front_rows, variable_rows}
use Rattle.hc_table.specs.declared.variable.Front.{Front}
use Rattle.hc_table.specs.declared.variable.Front.TheVariants as front
use Rattle.hc_table.specs.declared.variable.Variable.{Variable}
use Rattle.hc_table.specs.declared.variable.Variable.TheVariants as variable
use Rattle.hc_template.specs.declared.signs.Names.{Names}
use Rattle.hc_template.specs.declared.signs.Names.TheVariants.{Expression, NoName, Rewriting}

-- ---- names

-- Those that an expression may name.
abbrev pub in_expressions : Variable → Bool
in_expressions variable.RequestUri = true
in_expressions variable.RequestFilename = true
in_expressions variable.QueryString = true
in_expressions variable.RequestMethod = true
in_expressions variable.RequestScheme = true
in_expressions variable.Https = true
in_expressions variable.HttpHost = true
in_expressions variable.HttpUserAgent = true
in_expressions variable.HttpReferer = true
in_expressions variable.RemoteAddr = true
in_expressions variable.ServerName = true
in_expressions variable.ServerPort = true
in_expressions other = false

abbrev pub if_in_expressions : Option Variable → Option Var
if_in_expressions None = None
if_in_expressions (Some found) = if in_expressions found then Some (var.Named found) else None

-- By the table of variables, without case.
abbrev pub variable_named : List ℕ → Option Var
variable_named name = if_in_expressions (find_in variable_rows name)

-- What a front says: a header, whose name follows, or a variable that rules set.
abbrev pub behind_front : Option Front → List ℕ → Option Var
behind_front None rest = None
behind_front (Some front.Header) rest = Some (var.Header rest)
behind_front (Some front.Environment) rest = Some (var.Env rest)

-- A name with a colon begins with a front.
abbrev pub rewriting_named : Option ℕ → List ℕ → Option Var
rewriting_named None name = option_map var.Named (find_in variable_rows name)
rewriting_named (Some at) name = behind_front (find_in front_rows (take (at + 1) name)) (drop (at + 1) name)

-- All of the table, and headers and variables by their names.
abbrev pub rewriting_variable : List ℕ → Option Var
rewriting_variable name = rewriting_named (position is_colon name) name

abbrev pub named_by : Names → List ℕ → Option Var
named_by NoName name = None
named_by Expression name = variable_named name
named_by Rewriting name = rewriting_variable name

-- ---- the server's own name

abbrev pub scheme_name : Scheme → List ℕ
scheme_name Http = codes "http"
scheme_name Https = codes "https"

abbrev pub default_port : Scheme → ℕ
default_port Http = 80
default_port Https = 443

-- The scheme's default port is left out.
abbrev pub port_part : Scheme → ℕ → List ℕ
port_part scheme port = if port == default_port scheme then [] else colon ∷ decimal port

abbrev pub origin : Caller → List ℕ
origin caller =
    scheme_name caller.request.scheme ++ codes "://" ++ caller.name ++ port_part caller.request.scheme
    caller.request.port

-- ---- values

abbrev pub on_off : Scheme → List ℕ
on_off Http = codes "off"
on_off Https = codes "on"

-- The first header of this name, without case; empty where there is none.
abbrev pub header_value : List Header → List ℕ → List ℕ
header_value headers name =
    unwrap_or
    (option_map (λ header. header.value) (find (λ header. str_eq_ignore_ascii_case header.name name) headers)) []

abbrev pub host_with_port : Request → List ℕ
host_with_port request = request.host ++ port_part request.scheme request.port

-- A request at a server, the URL path, the query and the file name.
pub record Seen : Type 0 where
  pub caller : Caller
  pub path : List ℕ
  pub query : List ℕ
  pub name : List ℕ

abbrev pub seen_by : View → Seen
seen_by view = record { caller = view.caller; path = view.path; query = view.query; name = view.name }

-- What an expression may not name has no value there.
abbrev pub value_of : Seen → Variable → List ℕ
value_of seen variable.RequestUri = seen.path
value_of seen variable.RequestFilename = seen.name
value_of seen variable.QueryString = seen.query
value_of seen variable.RequestMethod = seen.caller.request.method
value_of seen variable.RequestScheme = scheme_name seen.caller.request.scheme
value_of seen variable.Https = on_off seen.caller.request.scheme
value_of seen variable.HttpHost = host_with_port seen.caller.request
value_of seen variable.HttpUserAgent = header_value seen.caller.request.headers (codes "User-Agent")
value_of seen variable.HttpReferer = header_value seen.caller.request.headers (codes "Referer")
value_of seen variable.RemoteAddr = printed seen.caller.request.client
value_of seen variable.ServerName = seen.caller.name
value_of seen variable.ServerPort = decimal seen.caller.request.port
value_of seen other = []

-- In an expression.
abbrev pub variable_value : View → Var → List ℕ
variable_value view (var.Header name) = header_value view.caller.request.headers name
variable_value view (var.Env name) = []
variable_value view (var.Named named) = value_of (seen_by view) named
