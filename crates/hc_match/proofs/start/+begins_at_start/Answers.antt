use Rattle.hc_match.proofs.Common.{◌≡◌, ap, ◌∙◌, is_repeat, pattern_of, repeat}
use Rattle.hc_match.proofs.Starts.{turns_begin}
use Rattle.hc_match.proofs.start.+begins_at_start.Goals as goal

pub returns-then-least-gt0 : goal.returns-then-least-gt0
returns-then-least-gt0 t c starts =
    let node = c.in-Repeat in
    let is : pattern_of c.args.pat.now ≡ repeat (pattern_of node.body.value) node.least node.field-2 node.field-3 =
    ap pattern_of node.is ∙ is_repeat node.body node.least node.field-2 node.field-3 in
    turns_begin (pattern_of c.args.pat.now) (pattern_of node.body.value) (pattern_of c.deref-then-least-gt0.result.now)
    node.least node.field-2 node.field-3
    is (ap pattern_of c.deref-then-least-gt0.ensures) c.if-least-gt0.true
    (c.begins_at_start-then-least-gt0.ensures starts)
