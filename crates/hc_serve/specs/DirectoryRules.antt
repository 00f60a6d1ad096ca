-- What the rules of a directory run with, and what the restart that they lead to begins with.
-- Apache manual, mod_rewrite: RewriteRule ("Per-directory Rewrites"), RewriteBase; "RewriteRule Flags": END; core:
-- LimitInternalRecursion. Which rules run, and what a restart keeps of the variables, is our own choice.
use Rattle.std.specs.Prelude.{ℕ, ◌+◌, nat_le, List, Bool, not, ◌&&◌, ◌||◌, if◌then◌else◌, codes}
use Rattle.std.specs.Prelude.{Option, Some, None, is_some}
use Rattle.std.specs.Str.{bytes_eq}
use Rattle.hc_alias.specs.Mapping.{root_of}
use Rattle.hc_base.specs.Paths.{ends_with_slash}
use Rattle.hc_rw_eval.specs.Directories.{url_path}
use Rattle.hc_rw_expand.specs.Contexts.{Context, Engine}
use Rattle.hc_rw_expand.specs.Variables.{Variables, renamed, with_value}
use Rattle.hc_rw_expand.specs.declared.state.RwState.{RwState}
use Rattle.hc_serve.specs.ServerRules.{pass_at}
use Rattle.hc_serve.specs.Site.{Site, most_passes}
use Rattle.hc_serve.specs.declared.stage.Here.{Here}
use Rattle.hc_serve.specs.declared.stage.Named.{Named}
use Rattle.hc_serve.specs.declared.stage.Pass.{Pass}
use Rattle.hc_vhost.specs.Servers.{servers_of}

-- ---- where rules run

-- A directory has no rules for itself, where its name has no final slash.
abbrev pub unless_itself : List ℕ → Option (List ℕ) → Option (List ℕ)
unless_itself name None = None
unless_itself name (Some dir) = if bytes_eq name dir && not (ends_with_slash name) then None else Some dir

-- The directory whose rules run: its engine is on, and END was not met.
abbrev pub ruling_dir : Here → Option (List ℕ)
ruling_dir here =
    if here.force.engine && not here.named.pass.end then unless_itself here.walk.name here.force.dir else None

-- The name does not come from the document root.
abbrev pub is_aliased : Named → Bool
is_aliased named = named.own || is_some named.from

abbrev pub engine_in : Here → List ℕ → Engine
engine_in here dir = record { dir = dir; base = here.force.base; aliased = is_aliased here.named }

abbrev pub root_at : Site → Option (List ℕ)
root_at site = root_of (servers_of site.config site.host)

abbrev pub context_in : Site → Here → List ℕ → Context
context_in site here dir = record {
  caller = site.caller;
  path = here.named.pass.path;
  root = root_at site;
  first_query = here.named.pass.first_query;
  engine = Some (engine_in here dir);
}

-- ---- the run

-- The file name is rewritten.
abbrev pub state_in : Here → RwState
state_in here = record {
  text = here.walk.name;
  query = here.named.pass.query;
  info = here.walk.info;
  vars = here.named.pass.vars;
  end = here.named.pass.end;
  groups = None;
  cond_groups = None;
}

abbrev pub query_left : Here → Option RwState → List ℕ
query_left here None = here.named.pass.query
query_left here (Some state) = state.query

-- ---- the restart

-- Each variable is set anew behind `REDIRECT_`, and then the status: a variable STATUS is lost.
abbrev pub vars_behind : Variables → Variables
vars_behind vars = with_value (renamed (codes "REDIRECT_") vars) (codes "REDIRECT_STATUS") (codes "200")

abbrev pub next_pass : Here → RwState → List ℕ → Pass
next_pass here state path = pass_at (here.named.pass.number + 1) path state.query (vars_behind state.vars) state.end

-- No pass follows the last one that the limit allows. Passes count from 0.
abbrev pub is_last : Site → Here → Bool
is_last site here = nat_le (most_passes site.config site.host) (here.named.pass.number + 1)

-- The URL path that a text stands for.
abbrev pub path_for : Site → Here → Option (List ℕ) → List ℕ → List ℕ
path_for site here None text = text
path_for site here (Some dir) text = url_path (root_at site) (engine_in here dir) text
