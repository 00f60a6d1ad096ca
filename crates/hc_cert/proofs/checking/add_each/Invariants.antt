use Rattle.std.proofs.Common.{◌≡◌, ◌++◌, drop}
use Rattle.hc_cert.proofs.checking.add_each.Given as goal

abbrev pub invariant-loop-name : goal.invariant-loop-name
invariant-loop-name l = l.names ++ drop l.name-index l.variables ≡ l.initial.names ++ l.variables
