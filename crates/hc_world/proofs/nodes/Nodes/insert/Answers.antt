use Rattle.hc_world.proofs.Common.{◌≡◌, ◌∙◌, ap, rules, insert, node_of}
use Rattle.hc_world.proofs.Lookups.{map_inserted}
use Rattle.hc_world.proofs.nodes.Nodes.insert.Goals as goal

pub returns-clause-put : goal.returns-clause-put
returns-clause-put c =
    let copied : c.in_ok-to_vec.field-0.items ≡ c.args.path.now = search rules in
    map_inserted node_of c.self.inside.entries.entries c.insert.new.self.entries c.args.path.now c.in_ok-to_vec.field-0
    c.args.entry copied c.in_ok-insert.ensures.updates.0
    ∙ ap (λ world. insert world c.args.path.now (node_of c.args.entry)) c.self.view_is
