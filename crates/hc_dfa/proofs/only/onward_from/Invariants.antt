use Rattle.hc_dfa.proofs.Sole.{AreAsked}
use Rattle.hc_dfa.proofs.only.onward_from.Given as goal

abbrev pub invariant-loop-byte : goal.invariant-loop-byte
invariant-loop-byte l = AreAsked l.a l.distances l.state l.ends l.byte-index l.onward
