use Rattle.hc_nodes.proofs.Common.{[], ◌∷◌, Some, Decides-eqb, strip_prefix_is, strip_suffix_is, greater, less}
use Rattle.hc_nodes.proofs.Common.{slash}
use Rattle.hc_nodes.proofs.Closes.{behind_front}
use Rattle.hc_nodes.proofs.section.inside_close.Goals as goal

pub returns : goal.returns
returns c =
    let rest = c.in_ok-strip_prefix.field-0 in
    let front = strip_prefix_is Decides-eqb c.args.text.now (less ∷ slash ∷ []) (Some rest)
    c.in_ok-strip_prefix.ensures.cases in
    behind_front _ rest.now _ front
    (strip_suffix_is Decides-eqb rest.now (greater ∷ []) c.strip_suffix.result c.strip_suffix.ensures.cases)
