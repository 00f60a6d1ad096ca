use Rattle.std.proofs.Common.{◌∙◌, ap, subst, sym}
use Rattle.std.proofs.lemmas.Result.{IfOk-weaker}
use Rattle.hc_dfa.specs.Automata.{accepts}
use Rattle.hc_plan.proofs.Tested.{known_tested, open_tested, sole_tested}
use Rattle.hc_plan.specs.Hands.{IsShape}
use Rattle.hc_plan.specs.Ways.{on}
use Rattle.hc_plan.specs.declared.shape.Shape.TheVariants.{Known}
use Rattle.hc_plan.proofs.ways.way_on_side.Goals as goal

pub returns-in-Known : goal.returns-in-Known
returns-in-Known c =
    let hand = c.args.hand in
    let shape = subst (IsShape c.args.cell.now hand.elements.now) (c.in-Known.is ∙ ap Known (sym c.as_bytes.ensures))
    c.in_ok-whole.ensures in
    IfOk-weaker c.known_way.result _ _
    (λ found is. known_tested c.args.cell.now c.args.ties hand.elements.now hand.off hand.side.now
    (on c.args.test.held (accepts c.args.test.set.now)) found c.as_bytes.result.now shape is) c.known_way.ensures

pub returns-in-Sole : goal.returns-in-Sole
returns-in-Sole c =
    let hand = c.args.hand in
    let shape = subst (IsShape c.args.cell.now hand.elements.now) c.in-Sole.is c.in_ok-whole.ensures in
    IfOk-weaker c.sole_way.result _ _
    (λ found is. sole_tested c.args.cell.now c.args.ties hand.elements.now hand.off hand.side.now
    (on c.args.test.held (accepts c.args.test.set.now)) found c.in-Sole.sole shape is) c.sole_way.ensures

pub returns-in-Open : goal.returns-in-Open
returns-in-Open c =
    let hand = c.args.hand in
    let shape = subst (IsShape c.args.cell.now hand.elements.now) c.in-Open.is c.in_ok-whole.ensures in
    IfOk-weaker c.open_way.result _ _
    (λ found is. open_tested c.args.cell.now c.args.ties hand.elements.now hand.off hand.side.now
    (on c.args.test.held (accepts c.args.test.set.now)) found shape is) c.open_way.ensures
