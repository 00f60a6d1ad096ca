use Rattle.std.proofs.Common.{◌≡◌, drop}
use Rattle.std.specs.List.{flat_map}
use Rattle.hc_named.specs.Gathering.{with_vars}
use Rattle.hc_named.specs.Named.{plain_vars}
use Rattle.hc_named.proofs.gathering.Gathered.add_plain.Given as goal

-- what is left gives what all give
abbrev pub invariant-loop-piece : goal.invariant-loop-piece
invariant-loop-piece l = with_vars l.self (flat_map plain_vars (drop l.piece-index l.pieces))
    ≡ with_vars l.fn.self (flat_map plain_vars l.pieces)
