-- The variables and headers that rules name.
-- Apache manual, mod_rewrite, RewriteCond; RewriteRule; RewriteMap. Which rules are looked at is our own choice.
use Rattle.std.specs.Prelude.{◌≡◌, ℕ, zero, suc, List, [], ◌∷◌, ◌++◌, length, drop, nat_eq}
use Rattle.std.specs.Prelude.{Option, None, Some, unwrap_or, if◌then◌else◌, codes}
use Rattle.std.specs.Cmp.Lexicographic.{slice_cmp}
use Rattle.std.specs.List.{flat_map, starts_with}
use Rattle.std.specs.Ordering.{nat_cmp}
use Rattle.std.specs.Str.{str_to_ascii_lowercase}
use Rattle.std.specs.declared.cmp.Ordering.{Ordering}
use Rattle.hc_merge.specs.Candidates.{Path}
use Rattle.hc_merge.specs.Overriding.{allowed, allows_nothing, files_read}
use Rattle.hc_model.specs.Overrides.{Reading}
use Rattle.hc_model.specs.declared.config.Config.{Config}
use Rattle.hc_model.specs.declared.config.HostId.{HostId}
use Rattle.hc_model.specs.declared.config.Server.{Server}
use Rattle.hc_model.specs.declared.rewrite.EnvSet.{EnvSet}
use Rattle.hc_model.specs.declared.rewrite.Rule.{Rule}
use Rattle.hc_model.specs.declared.section.Body.{Body, out-Body}
use Rattle.hc_model.specs.declared.section.HtFile.{HtFile}
use Rattle.hc_model.specs.declared.section.Section.{Section, out-Section}
use Rattle.hc_model.specs.declared.template.Piece.{Piece, out-Piece}
use Rattle.hc_model.specs.declared.template.Piece.TheOpen.{Piece-F, Lookup}
use Rattle.hc_model.specs.declared.template.Piece.TheVariants as piece
use Rattle.hc_model.specs.declared.template.Var.{Var}
use Rattle.hc_model.specs.declared.template.Var.TheVariants as var
use Rattle.hc_steps.specs.Order.{ordered}
use Rattle.hc_named.specs.declared.names.Names.{Names}

-- ---- variables of templates

-- No look-up stands in another.
abbrev pub plain_vars : Piece → List Var
plain_vars (piece.Var own) = own ∷ []
plain_vars other = []

abbrev pub open_vars : Piece → Piece-F Piece → List Var
open_vars own (Lookup name key fallback) = flat_map plain_vars key ++ flat_map plain_vars fallback
open_vars own other = plain_vars own

abbrev pub piece_vars : Piece → List Var
piece_vars own = open_vars own (out-Piece own)

abbrev pub template_vars : List Piece → List Var
template_vars pieces = flat_map piece_vars pieces

-- ---- variables of rules

-- What E sets or unsets, and what the value names.
abbrev pub set_vars : EnvSet → List Var
set_vars set = var.Env set.name ∷ template_vars (unwrap_or set.value [])

abbrev pub rule_vars : Rule → List Var
rule_vars rule = flat_map (λ cond. template_vars cond.test) rule.conds ++ template_vars (unwrap_or rule.subst [])
    ++ flat_map set_vars rule.flags.sets

-- ---- names

abbrev pub front : List ℕ
front = codes "REDIRECT_"

-- A name, and what is left of it where the front is taken off, as often as it stands there.
abbrev pub stripped_by : ℕ → List ℕ → List (List ℕ)
stripped_by zero name = []
stripped_by (suc more) name =
    name ∷ (if starts_with nat_eq name front then stripped_by more (drop (length front) name) else [])

abbrev pub stripped : List ℕ → List (List ℕ)
stripped name = stripped_by (suc (length name)) name

abbrev pub variables_of : Var → List (List ℕ)
variables_of (var.Env name) = stripped name
variables_of other = []

abbrev pub headers_of : Var → List (List ℕ)
headers_of (var.Header name) = str_to_ascii_lowercase name ∷ []
headers_of other = []

-- The headers that have variables of their own, which expressions name too.
abbrev pub own_headers : List (List ℕ)
own_headers = codes "accept" ∷ codes "cookie" ∷ codes "referer" ∷ codes "user-agent" ∷ []

abbrev pub text_cmp : List ℕ → List ℕ → Ordering
text_cmp = slice_cmp nat_cmp

-- The names that variables have, each once, in byte order.
abbrev pub variables_in : List Var → List (List ℕ)
variables_in vars = ordered text_cmp (flat_map variables_of vars)

abbrev pub headers_in : List Var → List (List ℕ)
headers_in vars = ordered text_cmp (own_headers ++ flat_map headers_of vars)

-- These are the names that rules name.
pub record AreNames (rules : List Rule) (names : Names) : Type 0 where
  pub variables : names.variables ≡ variables_in (flat_map rule_vars rules)
  pub headers : names.headers ≡ headers_in (flat_map rule_vars rules)

-- ---- the rules that are looked at

abbrev pub body_rules : Body → List Rule
body_rules body = (out-Body body).rules

abbrev pub section_rules : Section → List Rule
section_rules section = body_rules (out-Section section).body

-- No section inside another has rules.
abbrev pub server_rules : Server → List Rule
server_rules server = body_rules server.body ++ flat_map section_rules server.sections

abbrev pub config_rules : Config → List Rule
config_rules config = flat_map server_rules (config.main ∷ config.hosts)

abbrev pub file_rules : Option HtFile → List Rule
file_rules None = []
file_rules (Some file) = body_rules file.body

-- A `.htaccess` is read where something is allowed.
abbrev pub dir_rules : Reading → Config → HostId → Path → List Rule
dir_rules reading config host dir =
    if allows_nothing (allowed config host dir) then []
    else file_rules (files_read reading dir (allowed config host dir))

-- Of all servers, whichever answers, and of the `.htaccess` files for the one that does.
abbrev pub all_rules : Reading → Config → HostId → List Path → List Rule
all_rules reading config host dirs = config_rules config ++ flat_map (dir_rules reading config host) dirs
