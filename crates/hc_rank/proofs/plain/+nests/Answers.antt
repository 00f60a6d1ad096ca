use Rattle.std.proofs.Common.{◌&&◌, ◌||◌, ap, sym, ◌∙◌}
use Rattle.hc_pattern.specs.Pattern.{pattern_of}
use Rattle.hc_pattern.proofs.Nodes.{is_group}
use Rattle.hc_rank.specs.Ranks.{has_used, is_used, nests}
use Rattle.hc_rank.proofs.plain.+nests.Goals as goal

pub returns-else-is_around : goal.returns-else-is_around
returns-else-is_around t c used set =
    let node = c.in-Group in
    let around = ap (λ pat. is_used used node.number && has_used used (pattern_of pat)) (sym c.deref.ensures)
    ∙ sym (c.is_around.ensures used set) ∙ c.if-is_around.false in
    rw (ap pattern_of node.is ∙ is_group node.number node.body)
    (c.nests.ensures used set ∙ ap (λ pat. nests used (pattern_of pat)) c.deref-else-is_around.ensures
    ∙ ap (λ is. is || nests used (pattern_of node.body.value)) (sym around))
