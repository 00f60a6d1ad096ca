use Rattle.std.proofs.Common.{subst}
use Rattle.hc_dfa.specs.Automata.{accepts}
use Rattle.hc_abs_view.specs.Seen.{ArePiecesOf, IsTestedBy}
use Rattle.hc_abs_view.proofs.Testing.{set_tested}
use Rattle.hc_abs_view.proofs.sides.set_sides.Goals as goal

pub returns : goal.returns
returns c = λ asked means.
    let elements = c.in_ok-elements.elements.items in
    let set = accepts c.args.set.now in
    let sides = c.in_ok-sides.sides in
    set_tested c.args.scene c.args.tied.now c.args.text.now elements c.args.negated asked set sides
    (subst (λ pieces. ArePiecesOf c.args.scene pieces elements) c.as_slice.ensures c.in_ok-elements.ensures) means
    (subst (λ elements. IsTestedBy c.args.tied.now elements c.args.negated set sides) c.deref.ensures.value
    c.in_ok-sides.ensures)
