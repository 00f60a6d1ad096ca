use Rattle.hc_dfa.proofs.Common.{◌≡◌, take, length, vec_len, None, AreStates, FollowsTo, Gathers, LeadsTo}
use Rattle.hc_dfa.proofs.subsets.close.Given as goal

abbrev pub invariant-loop-place : goal.invariant-loop-place
invariant-loop-place l = record {
  places : vec_len l.places ≡ length l.machine.steps.items;
  states : AreStates l.machine l.closure.items;
  closure : Gathers (LeadsTo l.machine (take l.place l.closure.items) None)
      (FollowsTo l.machine l.initial.closure.items) l.initial.closure.items l.closure.items;
}
