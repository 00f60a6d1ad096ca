-- What is found of the names, variable by variable.
use Rattle.std.specs.Prelude.{ℕ, List, []}
use Rattle.std.specs.List.{flat_map, fold}
use Rattle.std.specs.BTreeSet.{insert_key}
use Rattle.hc_model.specs.declared.rewrite.Rule.{Rule}
use Rattle.hc_model.specs.declared.template.Var.{Var}
use Rattle.hc_steps.specs.Order.{ordered}
use Rattle.hc_named.specs.Named.{headers_of, own_headers, rule_vars, text_cmp, variables_of}

pub record Found : Type 0 where
  pub variables : List (List ℕ)
  pub headers : List (List ℕ)

-- Before any rule.
abbrev pub own_found : Found
own_found = record { variables = []; headers = ordered text_cmp own_headers }

abbrev pub with_names : List (List ℕ) → List (List ℕ) → List (List ℕ)
with_names found names = fold (insert_key text_cmp) found names

unfoldable pub with_var : Found → Var → Found
with_var found var = record {
  variables = with_names found.variables (variables_of var);
  headers = with_names found.headers (headers_of var);
}

abbrev pub with_vars : Found → List Var → Found
with_vars found vars = fold with_var found vars

abbrev pub with_rules : Found → List Rule → Found
with_rules found rules = with_vars found (flat_map rule_vars rules)
