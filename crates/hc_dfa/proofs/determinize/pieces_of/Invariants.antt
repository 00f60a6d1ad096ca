use Rattle.hc_dfa.proofs.Pieces.{IsCounting}
use Rattle.hc_dfa.proofs.determinize.pieces_of.Given as goal

abbrev pub invariant-loop-byte : goal.invariant-loop-byte
invariant-loop-byte l = IsCounting l.changes l.byte l.piece l.numbers.items
