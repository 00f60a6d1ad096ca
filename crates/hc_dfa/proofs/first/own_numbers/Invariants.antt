use Rattle.hc_dfa.specs.Singles.{AreOwn}
use Rattle.hc_dfa.proofs.first.own_numbers.Given as goal

abbrev pub invariant-loop-byte : goal.invariant-loop-byte
invariant-loop-byte l = AreOwn l.text l.byte-index l.numbers.items
