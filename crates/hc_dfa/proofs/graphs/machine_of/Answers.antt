use Rattle.hc_dfa.proofs.Following.{begun, is_machine, reads_ways}
use Rattle.hc_dfa.proofs.graphs.machine_of.Goals as goal

pub explore-requires : goal.explore-requires
explore-requires g c =
    begun (g.G.Graph.graph c.args.graph.now) (g.G.Graph.is_key c.args.graph.now) c.args.first
    c.number_of.new.keys.keys _ c.in_ok-number_of.field-0 c.requires
    (rw c.new-keys.ensures.empty at c.in_ok-number_of.ensures) c.new.ensures.items c.new-2.ensures.items

pub returns-clause-machine : goal.returns-clause-machine
returns-clause-machine g c =
    let all = c.in_ok-explore.ensures in
    is_machine (g.G.Graph.graph c.args.graph.now) (g.G.Graph.is_key c.args.graph.now) c.args.first
    c.explore.new.keys.keys c.explore.new.gathered all.0 all.3 all.1

pub returns-clause-ways : goal.returns-clause-ways
returns-clause-ways g c =
    let all = c.in_ok-explore.ensures in
    reads_ways (g.G.Graph.graph c.args.graph.now) (g.G.Graph.is_key c.args.graph.now) c.args.first
    c.explore.new.keys.keys c.explore.new.gathered all.0 all.3 all.1
