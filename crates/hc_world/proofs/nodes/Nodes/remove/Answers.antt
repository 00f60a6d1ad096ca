use Rattle.hc_world.proofs.Common.{◌∙◌, ap, remove, node_of}
use Rattle.hc_world.proofs.Lookups.{map_removed}
use Rattle.hc_world.proofs.nodes.Nodes.remove.Goals as goal

pub returns : goal.returns
returns c =
    map_removed node_of c.self.inside.entries.entries c.remove.new.self.entries c.args.path.now
    c.remove.ensures.updates.0
    ∙ ap (λ world. remove world c.args.path.now) c.self.view_is
