use Rattle.hc_dfa.proofs.Common.{take, Marks}
use Rattle.hc_dfa.proofs.subsets.mark_all.Given as goal

abbrev pub invariant-loop-step : goal.invariant-loop-step
invariant-loop-step l = Marks (take l.step-index l.steps) l.initial.changes.items l.changes.items
