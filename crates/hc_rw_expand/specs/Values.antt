-- What the variables of rules and conditions stand for.
-- Apache manual, mod_rewrite, RewriteCond. Where SERVER_NAME comes from, and what `HTTP:Host` gives, is our own choice.
use Rattle.std.specs.Prelude.{ℕ, List, [], ◌∷◌, ◌++◌, if◌then◌else◌, unwrap_or, codes}
use Rattle.std.specs.Str.{str_eq_ignore_ascii_case}
use Rattle.hc_addr.specs.Printed.{printed}
use Rattle.hc_base.specs.Bytes.{space}
use Rattle.hc_model.specs.declared.request.Request.{Request}
use Rattle.hc_model.specs.declared.template.Var.{Var}
use Rattle.hc_model.specs.declared.template.Var.TheVariants as var
use Rattle.hc_table.specs.declared.variable.Variable.{Variable}
use Rattle.hc_table.specs.declared.variable.Variable.TheVariants as variable
use Rattle.hc_template.specs.Filled.{Filling}
use Rattle.hc_template.specs.Variables.{Seen, header_value, host_with_port, value_of}
use Rattle.hc_rw_expand.specs.Contexts.{Context}
use Rattle.hc_rw_expand.specs.Groups.{group_of}
use Rattle.hc_rw_expand.specs.Variables.{variable_set}
use Rattle.hc_rw_expand.specs.declared.state.RwState.{RwState}

-- The text that is rewritten stands for the file name.
abbrev pub seen_in : Context → RwState → Seen
seen_in context state = record { caller = context.caller; path = context.path; query = state.query; name = state.text }

-- The request line, with single spaces.
abbrev pub request_line : Request → List ℕ
request_line request = request.method ++ space ∷ request.target ++ codes " HTTP/1.1"

-- Some have no value in expressions.
abbrev pub named_value : Context → RwState → Variable → List ℕ
named_value context state variable.ScriptFilename = state.text
named_value context state variable.PathInfo = state.info
named_value context state variable.DocumentRoot = unwrap_or context.root []
named_value context state variable.ServerAddr = printed context.caller.request.server
named_value context state variable.HttpCookie = header_value context.caller.request.headers (codes "Cookie")
named_value context state variable.HttpAccept = header_value context.caller.request.headers (codes "Accept")
named_value context state variable.TheRequest = request_line context.caller.request
named_value context state other = value_of (seen_in context state) other

-- A header by its name, without case.
abbrev pub header_named : Request → List ℕ → List ℕ
header_named request name =
    if str_eq_ignore_ascii_case name (codes "Host") then host_with_port request else header_value request.headers name

abbrev pub rule_value : Context → RwState → Var → List ℕ
rule_value context state (var.Header name) = header_named context.caller.request name
rule_value context state (var.Env name) = variable_set state.vars name
rule_value context state (var.Named named) = named_value context state named

abbrev pub filling_in : Context → RwState → Filling
filling_in context state = record {
  group = group_of state.groups;
  condition = group_of state.cond_groups;
  variable = rule_value context state;
}
