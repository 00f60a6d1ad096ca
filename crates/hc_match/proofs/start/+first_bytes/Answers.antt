use Rattle.hc_match.proofs.Common.{◌≡◌, ap, ◌∙◌, is_repeat, pattern_of, repeat}
use Rattle.hc_match.proofs.Starts.{turns_begin_in}
use Rattle.hc_match.proofs.start.+first_bytes.Goals as goal

pub returns-then-least-gt0 : goal.returns-then-least-gt0
returns-then-least-gt0 t c =
    let node = c.in-Repeat in
    let is : pattern_of c.args.pat.now ≡ repeat (pattern_of node.body.value) node.least node.field-2 node.field-3 =
    ap pattern_of node.is ∙ is_repeat node.body node.least node.field-2 node.field-3 in
    turns_begin_in c.first_bytes-then-least-gt0.result (pattern_of c.args.pat.now) (pattern_of node.body.value)
    (pattern_of c.deref-then-least-gt0.result.now) node.least node.field-2 node.field-3
    is (ap pattern_of c.deref-then-least-gt0.ensures) c.if-least-gt0.true c.first_bytes-then-least-gt0.ensures
