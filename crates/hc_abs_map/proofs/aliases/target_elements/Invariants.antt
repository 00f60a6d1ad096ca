use Rattle.hc_abs_map.proofs.Common.{take}
use Rattle.hc_abs_map.specs.Aliases.{AreTargetsBy}
use Rattle.hc_abs_map.proofs.aliases.target_elements.Given as goal

abbrev pub invariant-loop-piece : goal.invariant-loop-piece
invariant-loop-piece l = AreTargetsBy l.held (take l.piece-index l.pieces) l.elements.items
