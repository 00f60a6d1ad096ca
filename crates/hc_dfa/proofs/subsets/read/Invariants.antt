use Rattle.hc_dfa.proofs.Common.{◌≡◌, [], take, length, vec_len, Some, AreStates, Gathers, LeadsTo}
use Rattle.hc_dfa.proofs.subsets.read.Given as goal

abbrev pub invariant-loop-state : goal.invariant-loop-state
invariant-loop-state l = record {
  places : vec_len l.places ≡ length l.machine.steps.items;
  states : AreStates l.machine l.found.items;
  found : Gathers (LeadsTo l.machine (take l.state-index l.set) (Some l.byte)) (LeadsTo l.machine l.set (Some l.byte))
      [] l.found.items;
}
