use Rattle.hc_dfa.specs.Built.{Accepts}
use Rattle.hc_net_sets.specs.Unions.{six_texts}
use Rattle.hc_net_sets.proofs.networks.six_addresses.Given as goal

abbrev pub invariant-loop-behind : goal.invariant-loop-behind
invariant-loop-behind l = Accepts l.made (six_texts l.own l.mask l.behind)
