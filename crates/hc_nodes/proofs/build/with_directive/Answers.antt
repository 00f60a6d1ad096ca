use Rattle.hc_nodes.proofs.Common.{ap, ◌∙◌, refl, nodes_view, followed}
use Rattle.hc_nodes.proofs.Building.{nodes_view-last, put_Directive}
use Rattle.hc_nodes.proofs.build.with_directive.Goals as goal

pub returns : goal.returns
returns c =
    ap nodes_view c.in_ok-push.ensures.items ∙ nodes_view-last c.args.nodes.items _
    ∙ ap (followed (nodes_view c.args.nodes.items))
    (put_Directive _ _ _ ∙ rw (c.split_name.ensures.name, c.split_name.ensures.behind, c.as_str.ensures) refl)
