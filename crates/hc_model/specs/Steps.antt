-- The tree of an expression that stands as a list of steps.
use Rattle.std.specs.Prelude.{List, [], ◌∷◌}
use Rattle.hc_model.specs.declared.expression.Expr.{Expr}
use Rattle.hc_model.specs.declared.expression.Expr.TheVariants as expr
use Rattle.hc_model.specs.declared.expression.ExprStep.{ExprStep}
use Rattle.hc_model.specs.declared.expression.ExprStep.TheVariants as step

-- A step over the trees of the steps before it, the last first: an operator takes its parts, the first part on top.
-- Where parts are missing, the trees stay.
abbrev pub with_step : ExprStep → List Expr → List Expr
with_step step.Yes trees = expr.Yes ∷ trees
with_step step.No trees = expr.No ∷ trees
with_step (step.Same left right) trees = expr.Same left right ∷ trees
with_step (step.Search text pattern) trees = expr.Search text pattern ∷ trees
with_step (step.IpMatch text net) trees = expr.IpMatch text net ∷ trees
with_step step.Not (part ∷ trees) = expr.Not part ∷ trees
with_step step.And (first ∷ second ∷ trees) = expr.And first second ∷ trees
with_step step.Or (first ∷ second ∷ trees) = expr.Or first second ∷ trees
with_step missing trees = trees

abbrev pub trees_of : List ExprStep → List Expr → List Expr
trees_of [] trees = trees
trees_of (step ∷ steps) trees = trees_of steps (with_step step trees)

-- No tree is `false`.
abbrev pub top_of : List Expr → Expr
top_of [] = expr.No
top_of (tree ∷ trees) = tree

abbrev pub expr_of : List ExprStep → Expr
expr_of steps = top_of (trees_of steps [])
