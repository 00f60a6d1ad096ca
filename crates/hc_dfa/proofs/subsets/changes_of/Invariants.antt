use Rattle.hc_dfa.proofs.Common.{take, AreChanges}
use Rattle.hc_dfa.proofs.subsets.changes_of.Given as goal

abbrev pub invariant-loop-steps : goal.invariant-loop-steps
invariant-loop-steps l = AreChanges (take l.steps-index l.machine.steps.items) l.changes.items
