use Rattle.hc_nodes.proofs.Common.{ap, ◌∙◌, refl, nodes_view, followed}
use Rattle.hc_nodes.proofs.Building.{nodes_view-last, put_Block}
use Rattle.hc_nodes.proofs.build.close.Goals as goal

pub returns : goal.returns
returns c =
    let section = c.in-Some.section in
    rw c.in-Some.ensures (
      refl,
      ap nodes_view c.in_ok-push.ensures.items ∙ nodes_view-last section.before.items _
          ∙ ap (followed (nodes_view section.before.items)) (put_Block _ _ _ _),
    )
