use Rattle.std.proofs.Common.{◌≡◌, drop}
use Rattle.hc_cert.specs.Checking.{with_cells}
use Rattle.hc_cert.proofs.checking.add_variables.Given as goal

abbrev pub invariant-loop-own : goal.invariant-loop-own
invariant-loop-own l = with_cells l.names (drop l.own-index l.cells) ≡ with_cells l.initial.names l.cells
