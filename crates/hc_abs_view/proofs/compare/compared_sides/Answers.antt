use Rattle.std.proofs.Common.{subst}
use Rattle.hc_abs_view.specs.Seen.{AreCompared, ArePiecesOf}
use Rattle.hc_abs_view.proofs.Comparing.{compared_as}
use Rattle.hc_abs_view.proofs.compare.compared_sides.Goals as goal

pub returns : goal.returns
returns c =
    let tied = c.args.tied.now in
    let one = c.in_ok-one.one.items in
    let other = c.in_ok-other.other.items in
    let sides = c.in_ok-sides.sides in
    compared_as c.args.scene tied c.args.left.now c.args.right.now one other c.args.negated sides
    (subst (λ pieces. ArePiecesOf c.args.scene pieces one) c.as_slice.ensures c.in_ok-one.ensures)
    (subst (λ pieces. ArePiecesOf c.args.scene pieces other) c.as_slice-2.ensures c.in_ok-other.ensures)
    (subst (λ elements. AreCompared tied elements other c.args.negated sides) c.deref.ensures.value
    (subst (λ elements. AreCompared tied c.deref.result.now elements c.args.negated sides) c.deref-2.ensures.value
    c.in_ok-sides.ensures))
