use Rattle.hc_world.proofs.Common.{None, Some, sym, ap, ◌∙◌, text_of, node_of}
use Rattle.hc_world.proofs.Lookups.{seen}
use Rattle.hc_world.proofs.nodes.Nodes.text.Goals as goal

pub returns-in-Some : goal.returns-in-Some
returns-in-Some c = c.text_in.ensures
    ∙ sym (ap text_of
    (seen node_of c.self.inside.entries.entries _ c.args.path.now (Some _) c.self.view_is
    (sym c.in-Some.ensures.value)))

pub returns-in-None : goal.returns-in-None
returns-in-None c =
    sym (ap text_of
    (seen node_of c.self.inside.entries.entries _ c.args.path.now None c.self.view_is (sym c.in-None.ensures.value)))
