use Rattle.std.proofs.Common.{◌≡◌, take}
use Rattle.hc_expr.specs.StepViews.{emitted, reading_of}
use Rattle.hc_expr.specs.Steps.{trees_read}
use Rattle.hc_expr.proofs.stepping.read_all.Given as goal

abbrev pub invariant-loop-step : goal.invariant-loop-step
invariant-loop-step l = reading_of l.read ≡ trees_read (emitted (take l.step-index l.steps))
