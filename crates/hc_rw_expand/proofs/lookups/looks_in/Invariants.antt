use Rattle.std.proofs.Common.{◌≡◌, ◌++◌, drop}
use Rattle.hc_rw_expand.specs.LookReads.{reads_in}
use Rattle.hc_rw_expand.proofs.lookups.looks_in.Given as goal

-- the reads so far, and those of the pieces that are left
abbrev pub invariant-loop-piece : goal.invariant-loop-piece
invariant-loop-piece g l =
    l.reads.items ++ reads_in (g.P.Lookups.files l.look) (drop l.piece-index l.pieces)
    ≡ reads_in (g.P.Lookups.files l.look) l.pieces
