use Rattle.std.proofs.Common.{take}
use Rattle.hc_abs_rw.specs.Elements.{AreExpanded}
use Rattle.hc_abs_rw.specs.Known.{frame_at}
use Rattle.hc_abs_rw.proofs.elements.expanded.Given as goal

abbrev pub invariant-loop-piece : goal.invariant-loop-piece
invariant-loop-piece g l =
    AreExpanded (frame_at g.S.Surroundings.kind g.S.Surroundings.values l.frame) l.frame.client l.known
    (take l.piece-index l.pieces) l.elements.items
