use Rattle.hc_pattern.proofs.Common.{◌≡◌, ◌++◌, length, marks_from}
use Rattle.hc_pattern.proofs.glob.marks.Given as goal

abbrev pub invariant-bytes : goal.invariant-bytes
invariant-bytes l = l.marks.items ++ marks_from l.at l.rest ≡ marks_from 0 l.text

abbrev pub decreases-bytes : goal.decreases-bytes
decreases-bytes l = length l.rest
