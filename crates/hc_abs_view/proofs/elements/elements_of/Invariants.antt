use Rattle.std.proofs.Common.{take}
use Rattle.hc_abs_view.specs.Seen.{ArePiecesOf}
use Rattle.hc_abs_view.proofs.elements.elements_of.Given as goal

abbrev pub invariant-loop-piece : goal.invariant-loop-piece
invariant-loop-piece l = ArePiecesOf l.scene (take l.piece-index l.pieces) l.elements.items
