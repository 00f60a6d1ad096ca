use Rattle.std.proofs.Common.{◌≡◌, ◌++◌, drop}
use Rattle.hc_template.specs.Filled.{filled}
use Rattle.hc_template.proofs.filling.expand.Given as goal

-- what was filled in, and what the pieces that are left give
abbrev pub invariant-loop-piece : goal.invariant-loop-piece
invariant-loop-piece g l =
    l.text.items ++ filled (g.F.Fills.filling l.fills) (drop l.piece-index l.pieces)
    ≡ filled (g.F.Fills.filling l.fills) l.pieces
