use Rattle.std.proofs.Common.{slice_index_or, false, refl}
use mir.Val.{bool_byte}
use Rattle.hc_dfa.proofs.Pieces.{counting_more}
use Rattle.hc_dfa.proofs.determinize.pieces_of.Goals as goal

pub loop-byte-preserved : goal.loop-byte-preserved
loop-byte-preserved c =
    rw c.in_ok-push.ensures.items
    (counting_more c.args.changes.now c.loop-byte.byte c.loop-byte.piece c.loop-byte.numbers.items
    (slice_index_or c.args.changes.now c.loop-byte.byte false) bool_byte refl refl refl c.loop-byte.invariant)
