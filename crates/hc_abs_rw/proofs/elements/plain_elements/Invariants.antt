use Rattle.std.proofs.Common.{take}
use Rattle.hc_abs_rw.specs.Elements.{AreElementsOf}
use Rattle.hc_abs_rw.specs.Known.{frame_at}
use Rattle.hc_abs_rw.proofs.elements.plain_elements.Given as goal

abbrev pub invariant-loop-piece : goal.invariant-loop-piece
invariant-loop-piece g l =
    AreElementsOf (frame_at g.S.Surroundings.kind g.S.Surroundings.values l.frame) l.frame.client l.known
    (take l.piece-index l.pieces) l.elements.items
