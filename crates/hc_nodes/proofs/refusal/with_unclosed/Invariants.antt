use Rattle.hc_nodes.proofs.Common.{◌≡◌, length, map, earlier_of, opening_lines, unclosed, first_of_all}
use Rattle.hc_nodes.proofs.refusal.with_unclosed.Given as goal

abbrev pub invariant-loop-opening : goal.invariant-loop-opening
invariant-loop-opening l = earlier_of l.first (first_of_all (map unclosed (opening_lines l.openings)))
    ≡ earlier_of l.initial.first (first_of_all (map unclosed (opening_lines l.initial.openings)))

abbrev pub decreases-loop-opening : goal.decreases-loop-opening
decreases-loop-opening l = length l.openings
