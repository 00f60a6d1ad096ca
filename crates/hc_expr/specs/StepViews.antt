-- What the steps of `src/` are seen as.
use Rattle.std.specs.Prelude.{List, [], map, reverse, Option, Some, None, Result, Ok, Err}
use Rattle.hc_base.specs.declared.fault.AtByte.{AtByte}
use Rattle.hc_model.specs.Steps.{trees_of}
use Rattle.hc_model.specs.declared.expression.Expr.{Expr}
use Rattle.hc_model.specs.declared.expression.ExprStep.{ExprStep}
use Rattle.hc_expr.specs.Emitted.{Output, Step, inverts, joins_both, joins_either, tested}
use Rattle.hc_expr.specs.TokenViews.{test_view}
use Rattle.hc_expr.specs.declared.build.Levels.{Levels}
use Rattle.hc_expr.specs.declared.stepping.StepsRead.{StepsRead}
use Rattle.hc_expr.specs.declared.step.Step.{Step as StepOfBytes}
use Rattle.hc_expr.specs.declared.step.Step.TheVariants as step

abbrev pub step_view : StepOfBytes → Step
step_view (step.Test t) = tested (test_view t)
step_view step.Not = inverts
step_view step.And = joins_both
step_view step.Or = joins_either

-- The last step first.
abbrev pub emitted : List StepOfBytes → List Step
emitted steps = map step_view (reverse steps)

abbrev pub output_of : Levels → Output
output_of levels =
    record { inner = levels.inner; outer = reverse levels.outer.items; steps = emitted levels.steps.items }

abbrev pub trees_or : List ExprStep → Option AtByte → Result (List Expr) AtByte
trees_or steps None = Ok (trees_of steps [])
trees_or steps (Some broken) = Err broken

abbrev pub reading_of : StepsRead → Result (List Expr) AtByte
reading_of reading = trees_or reading.steps reading.refusal
