use Rattle.std.proofs.Common.{◌-◌, length}
use Rattle.hc_lines.proofs.Passing.{Passed}
use Rattle.hc_lines.proofs.run.run_end.Given as goal

abbrev pub invariant-lines : goal.invariant-lines
invariant-lines l = Passed l.text l.end l.count

abbrev pub decreases-lines : goal.decreases-lines
decreases-lines l = length l.text - l.end
