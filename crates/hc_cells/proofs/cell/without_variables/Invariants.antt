use Rattle.hc_cells.proofs.Common.{length, sets_in}
use Rattle.hc_cells.proofs.Variables.{Loses}
use Rattle.hc_cells.proofs.cell.without_variables.Given as goal

abbrev pub invariant-sets : goal.invariant-sets
invariant-sets l = Loses l.cell (sets_in l.made-inside.sets.entries) (length l.yielded)
