use Rattle.std.proofs.Common.{take}
use Rattle.hc_plan.specs.Hands.{IsShape}
use Rattle.hc_plan.proofs.shape.shape_of.Given as goal

abbrev pub invariant-loop-element : goal.invariant-loop-element
invariant-loop-element l = IsShape l.cell (take l.element-index l.elements) l.shape
