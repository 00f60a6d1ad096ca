use Rattle.std.proofs.Common.{take}
use Rattle.hc_plan.proofs.Elements.{AcceptEach}
use Rattle.hc_plan.proofs.parts.parts_set.Given as goal

abbrev pub invariant-loop-element : goal.invariant-loop-element
invariant-loop-element l = AcceptEach l.cell (take l.element-index l.elements) l.sets.items
