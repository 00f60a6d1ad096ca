use Rattle.hc_pattern.proofs.Common.{◌≡◌, drop, some_wildcard}
use Rattle.hc_pattern.proofs.Unclosed.{Unclosed}
use Rattle.hc_pattern.proofs.glob.some_wildcard.Given as goal

abbrev pub invariant-loop-i : goal.invariant-loop-i
invariant-loop-i l = (some_wildcard (drop l.i l.marks) ≡ some_wildcard l.marks)
    × Unclosed l.unclosed (drop l.i l.marks)
