use Rattle.std.proofs.Common.{take}
use Rattle.hc_dfa.specs.Automata.{accepts}
use Rattle.hc_sent.specs.Targets.{AreSetsOf}
use Rattle.hc_sent.proofs.making.piece_sets.Given as goal

abbrev pub invariant-loop-piece : goal.invariant-loop-piece
invariant-loop-piece l = AreSetsOf (accepts l.paths) l.from (take l.piece-index l.pieces) l.sets.items
