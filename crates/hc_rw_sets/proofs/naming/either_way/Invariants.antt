use Rattle.hc_rw_sets.proofs.Common.{◌≡◌, ◌++◌, drop}
use Rattle.hc_rw_sets.specs.Naming.{either_way}
use Rattle.hc_rw_sets.proofs.naming.either_way.Given as goal

abbrev pub invariant-loop-path : goal.invariant-loop-path
invariant-loop-path l = l.made.items ++ either_way (drop l.path-index l.paths) ≡ either_way l.paths
