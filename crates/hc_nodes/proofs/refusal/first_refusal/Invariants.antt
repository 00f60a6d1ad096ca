use Rattle.hc_nodes.proofs.Common.{◌≡◌, drop, earlier_of, opening_lines, first_of_all, refusal_of, refusals}
use Rattle.hc_nodes.proofs.refusal.first_refusal.Given as goal

abbrev pub invariant-loop-line : goal.invariant-loop-line
invariant-loop-line l =
    earlier_of l.first (first_of_all (refusals (opening_lines l.openings) (drop l.line-index l.lines)))
    ≡ refusal_of l.lines
