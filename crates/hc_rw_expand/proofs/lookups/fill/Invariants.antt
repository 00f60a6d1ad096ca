use Rattle.std.proofs.Common.{◌≡◌, ◌++◌, drop}
use Rattle.hc_rw_expand.specs.Lookups.{filled_with}
use Rattle.hc_rw_expand.proofs.lookups.fill.Given as goal

-- what was filled in, and what the pieces that are left give
abbrev pub invariant-loop-piece : goal.invariant-loop-piece
invariant-loop-piece g l =
    l.text.items ++ filled_with (g.P.Lookups.values l.look) (g.F.Fills.filling l.fills) (drop l.piece-index l.pieces)
    ≡ filled_with (g.P.Lookups.values l.look) (g.F.Fills.filling l.fills) l.pieces
