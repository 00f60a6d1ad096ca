-- What the code keeps of the rules that are in force.
use Rattle.std.specs.Prelude.{List}
use Rattle.std.specs.Borrow.{Bor}
use Rattle.std.specs.List.{flat_map}
use Rattle.std.specs.Option.{option_map}
use Rattle.hc_model.specs.declared.rewrite.Rule.{Rule}
use Rattle.hc_merge.specs.Rewriting as definition
use Rattle.hc_merge.specs.declared.rewriting.Rewriting.{Rewriting}

-- The rules of lists, one behind another.
abbrev pub rules_in : List (Bor (List Rule)) → List Rule
rules_in lists = flat_map (λ list. list.now) lists

abbrev pub rewriting_view : Rewriting → definition.Rewriting
rewriting_view rewriting = record {
  engine = rewriting.engine;
  dir = option_map (λ dir. dir.now) rewriting.dir;
  base = option_map (λ base. base.now) rewriting.base;
  rules = rules_in rewriting.rules.items;
}
