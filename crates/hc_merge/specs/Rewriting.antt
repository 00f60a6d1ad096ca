-- What of mod_rewrite is in force in a directory.
-- Apache manual, mod_rewrite: RewriteEngine, RewriteBase, RewriteOptions. That RewriteEngine stays where a section does
-- not set it, and
-- that inherited rules run with the directory and RewriteBase of the section that inherits them, is our own choice.
use Rattle.std.specs.Prelude.{List, [], ◌++◌, Bool, false, if◌then◌else◌, Option, None}
use Rattle.std.specs.List.{fold}
use Rattle.std.specs.Option.{unwrap_or}
use Rattle.hc_model.specs.declared.rewrite.Rule.{Rule}
use Rattle.hc_model.specs.declared.section.Body.{out-Body}
use Rattle.hc_model.specs.declared.section.Inherit.{Inherit}
use Rattle.hc_model.specs.declared.section.Inherit.TheVariants.{After, Before, No}
use Rattle.hc_merge.specs.Candidates.{Candidate, Path}

-- What of mod_rewrite is in force so far.
pub record Rewriting : Type 0 where
  pub engine : Bool
  pub dir : Option Path
  pub base : Option Path
  pub rules : List Rule

abbrev pub no_rewriting : Rewriting
no_rewriting = record { engine = false; dir = None; base = None; rules = [] }

-- Inherited rules come behind a section's own, or before them.
abbrev pub with_earlier : {A : Type 0} → Inherit → List A → List A → List A
with_earlier No own earlier = own
with_earlier After own earlier = own ++ earlier
with_earlier Before own earlier = earlier ++ own

-- A section with a directive of mod_rewrite replaces the directory, RewriteBase and the rules.
abbrev pub replaced : Rewriting → Candidate → Rewriting
replaced so_far candidate = record {
  engine = unwrap_or (out-Body candidate.body).engine so_far.engine;
  dir = candidate.dir;
  base = (out-Body candidate.body).base;
  rules = with_earlier (out-Body candidate.body).inherit (out-Body candidate.body).rules so_far.rules;
}

abbrev pub rewriting_behind : Rewriting → Candidate → Rewriting
rewriting_behind so_far candidate = if (out-Body candidate.body).rewrites then replaced so_far candidate else so_far

abbrev pub rewriting_of : List Candidate → Rewriting
rewriting_of kept = fold rewriting_behind no_rewriting kept
