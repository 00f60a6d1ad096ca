use Rattle.std.proofs.Common.{◌^◌, ◌-◌, ◌*◌, ap, ◌∙◌}
use Rattle.std.specs.Prelude.{min}
use Rattle.hc_pattern.specs.Pattern.{pattern_of}
use Rattle.hc_pattern.proofs.Nodes.{is_repeat}
use Rattle.hc_rank.specs.Ranks.{least_rest}
use Rattle.hc_rank.proofs.Counts.{capped_product}
use Rattle.hc_rank.proofs.least.+rest_outside.Goals as goal

pub returns-in-Repeat : goal.returns-in-Repeat
returns-in-Repeat t c used set =
    let node = c.in-Repeat in
    let turn = c.rest_outside-turn.ensures used set
    ∙ ap (λ pat. min (2 ^ 128 - 1) (least_rest used (pattern_of pat))) c.deref-in-Repeat.ensures in
    rw (ap pattern_of node.is ∙ is_repeat node.body node.least node.field-2 node.field-3)
    (c.saturating_mul.ensures ∙ ap (λ turns. min (turns * c.rest_outside-turn.result) (2 ^ 128 - 1)) c.from.ensures
    ∙ ap (λ bytes. min (node.least * bytes) (2 ^ 128 - 1)) turn
    ∙ capped_product (2 ^ 128 - 1) node.least (least_rest used (pattern_of node.body.value)))
