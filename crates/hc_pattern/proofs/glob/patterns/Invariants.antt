use Rattle.hc_pattern.proofs.Common.{◌≡◌, drop, map, patterns_of, pieces_of, pattern_of}
use Rattle.hc_pattern.proofs.GlobLemmas.{behind}
use Rattle.hc_pattern.proofs.Unclosed.{Unclosed}
use Rattle.hc_pattern.proofs.glob.patterns.Given as goal

abbrev pub invariant-loop-i : goal.invariant-loop-i
invariant-loop-i l =
    (behind (map pattern_of l.patterns.items) (patterns_of l.keeps_slash (pieces_of l.passed (drop l.i l.marks)))
    ≡ patterns_of l.keeps_slash (pieces_of 0 l.marks)) × Unclosed l.unclosed (drop l.i l.marks)
