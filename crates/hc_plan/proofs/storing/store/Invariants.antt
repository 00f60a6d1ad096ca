use Rattle.std.proofs.Common.{drop}
use Rattle.hc_plan.specs.Stores.{Stores}
use Rattle.hc_plan.specs.declared.storing.Tied.{Tied}
use Rattle.hc_plan.proofs.storing.store.Given as goal

-- What is left to store leads to the whole.
abbrev pub invariant-loop-one : goal.invariant-loop-one
invariant-loop-one l =
    (made : Tied) → Stores l.cell l.ties (drop l.one-index l.stored) made
    → Stores l.fn.tied.cell l.fn.tied.ties l.stored made
