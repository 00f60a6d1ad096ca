use Rattle.hc_match.proofs.Common.{◌≡◌, sym, ap, ◌∙◌, arith, is_cat, is_repeat, pattern_of, cat, repeat}
use Rattle.hc_match.proofs.Starts.{no_repeat, no_second}
use Rattle.hc_match.proofs.look.+parts_may_begin.Goals as goal

pub returns-else-parts_may_begin : goal.returns-else-parts_may_begin
returns-else-parts_may_begin t c none =
    let node = c.in-Repeat-deref in
    let cat_is : pattern_of c.args.pat.now ≡ cat (pattern_of c.in-Cat.first.value)
    (pattern_of c.in-Cat.second.value) = ap pattern_of c.in-Cat.is ∙ is_cat c.in-Cat.first c.in-Cat.second in
    let first_is : pattern_of c.in-Cat.first.value ≡ repeat (pattern_of node.body.value) node.least node.field-2
    node.field-3 =
    ap pattern_of (sym c.deref.ensures ∙ node.is) ∙ is_repeat node.body node.least node.field-2 node.field-3 in
    no_second c.args.text.now _ _ _ _ _ _ node.least node.field-2 node.field-3 c.args.at cat_is first_is
    c.if-least-eq0.true
    (ap pattern_of c.deref-in-Repeat-deref.ensures) (ap pattern_of c.deref-else-parts_may_begin.ensures)
    (c.parts_may_begin.ensures c.if-parts_may_begin.false) (c.parts_may_begin-else-parts_may_begin.ensures none)

pub returns-else-least-eq0-2 : goal.returns-else-least-eq0-2
returns-else-least-eq0-2 t c none held =
    let node = c.in-Repeat in
    let is : pattern_of c.args.pat.now ≡ repeat (pattern_of node.body.value) node.least node.field-2 node.field-3 =
    ap pattern_of node.is ∙ is_repeat node.body node.least node.field-2 node.field-3 in
    no_repeat c.args.text.now (pattern_of c.args.pat.now) (pattern_of node.body.value)
    (pattern_of c.deref-else-least-eq0-2.result.now) node.least node.field-2 node.field-3 c.args.at held
    is (ap pattern_of c.deref-else-least-eq0-2.ensures) (omega (arith, c.if-least-eq0-2.false))
    (c.parts_may_begin-else-least-eq0-2.ensures none held)
