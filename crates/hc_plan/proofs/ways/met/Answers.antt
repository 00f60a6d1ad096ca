use Rattle.std.proofs.Common.{◌∙◌, sym, ap, drop, ◌&&◌}
use Rattle.hc_dfa.specs.Automata.{accepts}
use Rattle.hc_plan.proofs.Narrowed.{shifted}
use Rattle.hc_plan.specs.Hands.{side_of}
use Rattle.hc_plan.specs.Ways.{on}
use Rattle.hc_plan.proofs.ways.met.Goals as goal

pub returns-in-None : goal.returns-in-None
returns-in-None c = λ text bytes.
    let set = on c.args.test.held (accepts c.args.test.set.now) in
    let off = c.args.hand.off in
    c.in_ok-whole.ensures text bytes ∙ shifted set (accepts c.in_ok-own.own) off c.in_ok-own.ensures text bytes
    ∙ ap (λ found. side_of found text && set (drop off text)) (sym c.in-None.is)

pub returns : goal.returns
returns c = λ text bytes.
    let set = on c.args.test.held (accepts c.args.test.set.now) in
    let off = c.args.hand.off in
    c.in_ok-fewer-in-Some.ensures text bytes ∙ c.in_ok-both-in-Some.ensures text bytes
    ∙ ap (λ has. accepts c.in-Some.side text && has)
    (c.in_ok-whole.ensures text bytes ∙ shifted set (accepts c.in_ok-own.own) off c.in_ok-own.ensures text bytes)
    ∙ ap (λ found. side_of found text && set (drop off text)) (sym c.in-Some.is)
