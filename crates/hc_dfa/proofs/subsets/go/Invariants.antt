use Rattle.hc_dfa.proofs.Common.{◌≡◌, take, length, vec_len, AreStates, Gathers, Goes, HasStep}
use Rattle.hc_dfa.proofs.subsets.go.Given as goal

abbrev pub invariant-loop-step : goal.invariant-loop-step
invariant-loop-step l = record {
  places : vec_len l.places ≡ length l.machine.steps.items;
  states : AreStates l.machine l.set.items;
  set : Gathers (HasStep (take l.step-index l.row) l.byte) (Goes l.machine l.state l.byte) l.initial.set.items
      l.set.items;
}
