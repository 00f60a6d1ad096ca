-- Where a list of rules runs.
-- Apache manual, mod_rewrite: RewriteRule, "Per-directory Rewrites"; RewriteBase; core, DocumentRoot.
use Rattle.std.specs.Prelude.{ℕ, List, Bool, Option}
use Rattle.hc_model.specs.declared.request.Caller.{Caller}
use Rattle.hc_rw_expand.specs.declared.context.Engine.{Engine as LentEngine}
use Rattle.hc_rw_expand.specs.declared.context.RwContext.{RwContext}
use Rattle.std.specs.Option.{option_map}

-- The directory whose rules run.
pub record Engine : Type 0 where
  -- Without a final slash, but for `/`.
  pub dir : List ℕ
  -- RewriteBase.
  pub base : Option (List ℕ)
  -- The file name does not come from the document root.
  pub aliased : Bool

pub record Context : Type 0 where
  pub caller : Caller
  -- The URL path of the pass.
  pub path : List ℕ
  -- The document root.
  pub root : Option (List ℕ)
  -- The query at the start of the pass.
  pub first_query : List ℕ
  -- None where the rules of a server run.
  pub engine : Option Engine

-- What the code keeps of them.
abbrev pub engine_of : LentEngine → Engine
engine_of engine = record {
  dir = engine.dir.now;
  base = option_map (λ base. base.now) engine.base;
  aliased = engine.aliased;
}

abbrev pub context_of : RwContext → Context
context_of context = record {
  caller = context.caller.now;
  path = context.path.now;
  root = option_map (λ root. root.now) context.root;
  first_query = context.first_query.now;
  engine = option_map engine_of context.engine;
}
