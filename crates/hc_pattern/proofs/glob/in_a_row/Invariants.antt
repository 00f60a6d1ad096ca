use Rattle.hc_pattern.proofs.Common.{◌≡◌, vec_len, map, pattern_of, in_a_row}
use Rattle.hc_pattern.proofs.GlobLemmas.{row_before}
use Rattle.hc_pattern.proofs.glob.in_a_row.Given as goal

abbrev pub invariant-patterns : goal.invariant-patterns
invariant-patterns l = row_before (map pattern_of l.patterns.items) (pattern_of l.pat)
    ≡ in_a_row (map pattern_of l.fn.patterns.items)

abbrev pub decreases-patterns : goal.decreases-patterns
decreases-patterns l = vec_len l.patterns
