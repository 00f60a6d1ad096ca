use Rattle.std.proofs.Common.{◌≡◌, take}
use Rattle.hc_model.proofs.template.+copy.Given as goal

-- the pieces so far are copied
abbrev pub invariant-copy_pieces-loop-piece : goal.invariant-copy_pieces-loop-piece
invariant-copy_pieces-loop-piece l = l.copy ≡ take l.piece-index l.pieces
