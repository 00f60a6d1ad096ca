use Rattle.hc_world.proofs.Common.{None, Some, sym, ap, ◌∙◌, option_copied, kind_of, node_of}
use Rattle.hc_world.proofs.Lookups.{seen}
use Rattle.hc_world.proofs.nodes.Nodes.kind.Goals as goal

pub returns-in-None : goal.returns-in-None
returns-in-None c =
    sym (ap kind_of
    (seen node_of c.self.inside.entries.entries _ c.args.path.now None c.self.view_is (sym c.in-None.ensures.value)))

pub returns-in-Some-Dir : goal.returns-in-Some-Dir
returns-in-Some-Dir c =
    sym (ap kind_of
    (seen node_of c.self.inside.entries.entries _ c.args.path.now (Some _) c.self.view_is
    (sym c.get.ensures.value ∙ ap option_copied c.in-Some-Dir.is ∙ ap Some c.in-Some-Dir.field-0-is)))

pub returns-in-Some-Text : goal.returns-in-Some-Text
returns-in-Some-Text c =
    sym (ap kind_of
    (seen node_of c.self.inside.entries.entries _ c.args.path.now (Some _) c.self.view_is
    (sym c.get.ensures.value ∙ ap option_copied c.in-Some-Text.is ∙ ap Some c.in-Some-Text.field-0-is)))

pub returns-in-Some-File : goal.returns-in-Some-File
returns-in-Some-File c =
    sym (ap kind_of
    (seen node_of c.self.inside.entries.entries _ c.args.path.now (Some _) c.self.view_is
    (sym c.get.ensures.value ∙ ap option_copied c.in-Some-File.is ∙ ap Some c.in-Some-File.field-0-is)))
