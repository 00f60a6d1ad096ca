use Rattle.hc_pattern.proofs.Common.{◌≡◌, ◌+◌, drop, true, map, class_from}
use Rattle.hc_pattern.specs.ClassViews.{placed_view}
use Rattle.hc_pattern.proofs.ClassLemmas.{onto}
use Rattle.hc_pattern.proofs.class.read_class.Given as goal

abbrev pub invariant-loop-i : goal.invariant-loop-i
invariant-loop-i l =
    onto (map placed_view l.members.items) l.i (class_from l.passed l.first (l.from + l.i) (drop l.i l.text))
    ≡ class_from 0 true l.from l.text
