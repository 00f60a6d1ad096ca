-- What a server, a section or a `.htaccess` has of rewriting so far.
-- Apache manual, mod_rewrite.
use Rattle.std.specs.Prelude.{ℕ, List, [], ◌∷◌, ◌++◌, Bool, true, false, Some, None}
use Rattle.hc_model.specs.declared.rewrite.Cond.{Cond}
use Rattle.hc_model.specs.declared.rewrite.Rule.{Rule}
use Rattle.hc_model.specs.declared.section.Inherit.{Inherit}
use Rattle.hc_model.specs.declared.section.Inherit.TheVariants.{No}
use Rattle.hc_config.specs.declared.rewriting.Rewriting.{Rewriting}

abbrev pub no_rewriting : Rewriting
no_rewriting = record { stands = false; engine = None; base = None; inherit = No; rules = []; conds = [] }

abbrev pub with_engine : Rewriting → Bool → Rewriting
with_engine rewriting on = record rewriting { stands = true; engine = Some on }

abbrev pub with_base : Rewriting → List ℕ → Rewriting
with_base rewriting path = record rewriting { stands = true; base = Some path }

abbrev pub with_inherit : Rewriting → Inherit → Rewriting
with_inherit rewriting inherit = record rewriting { stands = true; inherit = inherit }

-- The conditions wait for the next rule.
abbrev pub with_cond : Rewriting → Cond → Rewriting
with_cond rewriting cond = record rewriting { stands = true; conds = rewriting.conds ++ cond ∷ [] }

abbrev pub with_rule : Rewriting → Rule → Rewriting
with_rule rewriting made =
    record rewriting {
      stands = true;
      rules = rewriting.rules ++ record made { conds = rewriting.conds } ∷ [];
      conds = [];
    }
