use Rattle.std.proofs.Common.{◌≡◌, map, drop}
use Rattle.hc_base.specs.Codes.{name_among}
use Rattle.hc_base.proofs.codes.name_among.Given as goal

abbrev pub invariant-loop-number : goal.invariant-loop-number
invariant-loop-number l =
    name_among (map (λ row. (row.0, row.1.now)) (drop l.number-index l.rows)) l.code
    ≡ name_among (map (λ row. (row.0, row.1.now)) l.fn.rows) l.code
