use Rattle.hc_vhost.specs.Servers.{servers_of}
use Rattle.hc_abs_map.specs.Aliases.{AreBehind}
use Rattle.hc_abs_map.proofs.map.all_behind.Given as goal

abbrev pub invariant-loop-one : goal.invariant-loop-one
invariant-loop-one l = AreBehind (servers_of l.config l.host) l.yielded l.found.items
