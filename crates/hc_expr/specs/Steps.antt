-- What the steps of an expression are read as, the last step first.
use Rattle.std.specs.Prelude.{List, [], ◌∷◌, Bool, true, false, Result, Ok, Err}
use Rattle.hc_base.specs.declared.fault.AtByte.{AtByte}
use Rattle.hc_model.specs.Steps.{top_of, with_step}
use Rattle.hc_model.specs.declared.expression.Expr.{Expr}
use Rattle.hc_model.specs.declared.expression.ExprStep.{ExprStep}
use Rattle.hc_model.specs.declared.expression.ExprStep.TheVariants as step
use Rattle.hc_pattern.specs.Reading.{parse_pattern}
use Rattle.hc_expr.specs.Emitted.{Step, inverts, joins_both, joins_either, tested}
use Rattle.hc_expr.specs.Reading.{made_of_one, made_of_two, network_of, operand_of}
use Rattle.hc_expr.specs.Tokens.{Test, always, network, same, search}

abbrev pub constant_step : Bool → ExprStep
constant_step true = step.Yes
constant_step false = step.No

-- A test, before what negates it.
abbrev pub step_read : Test → Result ExprStep AtByte
step_read (always value) = Ok (constant_step value)
step_read (same differs left right) = made_of_two step.Same (operand_of left) (operand_of right)
step_read (search differs left pattern nocase) =
    made_of_two step.Search (operand_of left) (parse_pattern pattern nocase)
step_read (network left text) = made_of_two step.IpMatch (operand_of left) (network_of text)

abbrev pub is_negated : Test → Bool
is_negated (always value) = false
is_negated (same differs left right) = differs
is_negated (search differs left pattern nocase) = differs
is_negated (network left text) = false

-- The trees so far, or what refuses one of them.
abbrev pub Trees : Type 0
Trees = Result (List Expr) AtByte

abbrev pub stepped : ExprStep → Trees → Trees
stepped step trees = made_of_one (with_step step) trees

abbrev pub negated_if : Bool → Trees → Trees
negated_if true trees = stepped step.Not trees
negated_if false trees = trees

-- What refuses a test stands before what refuses those behind it.
abbrev pub refused_by : AtByte → Trees → Trees
refused_by broken trees = made_of_two (λ tree more. tree ∷ more) (Err broken) trees

abbrev pub with_test : Bool → Result ExprStep AtByte → Trees → Trees
with_test negated (Ok step) trees = negated_if negated (stepped step trees)
with_test negated (Err broken) trees = refused_by broken trees

abbrev pub with_read : Step → Trees → Trees
with_read (tested t) trees = with_test (is_negated t) (step_read t) trees
with_read inverts trees = stepped step.Not trees
with_read joins_both trees = stepped step.And trees
with_read joins_either trees = stepped step.Or trees

abbrev pub trees_read : List Step → Trees
trees_read [] = Ok []
trees_read (step ∷ steps) = with_read step (trees_read steps)

abbrev pub steps_read : List Step → Result Expr AtByte
steps_read steps = made_of_one top_of (trees_read steps)
