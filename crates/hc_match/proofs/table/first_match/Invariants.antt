use Rattle.hc_match.proofs.Common.{◌≡◌, ◌+◌, ◌-◌, length, pattern_of, first_match, match_among, Meaning}
use Rattle.hc_match.proofs.Common.{Means, AllFail}
use Rattle.hc_match.proofs.table.first_match.Given as goal

abbrev pub invariant-loop-from : goal.invariant-loop-from
invariant-loop-from l =
    ((meaning : Meaning) → Means l.text l.steps meaning → AllFail meaning l.search.failures)
    × (match_among l.text (pattern_of l.pat) (length l.text + 1 - l.from) l.from
    ≡ first_match l.text (pattern_of l.pat))
