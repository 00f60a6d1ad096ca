use Rattle.std.proofs.Common.{◌≡◌, ◌++◌, drop, option_map, take}
use Rattle.hc_expr.specs.Tokens.{up_to}
use Rattle.hc_expr.proofs.operand.up_to.Given as goal

abbrev pub invariant-loop-i : goal.invariant-loop-i
invariant-loop-i l = option_map (λ found. (take l.i l.text ++ found.0, found.1)) (up_to l.end (drop l.i l.text))
    ≡ up_to l.end l.text
