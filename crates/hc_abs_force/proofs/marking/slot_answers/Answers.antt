use Rattle.std.proofs.Common.{◌∙◌, None, false, subst}
use Rattle.hc_dfa.specs.Automata.{accepts}
use Rattle.hc_abs_rw.specs.Trials.{AreWays}
use Rattle.hc_abs_force.proofs.Answering.{slot_adds}
use Rattle.hc_abs_force.proofs.marking.slot_answers.Goals as goal

pub returns : goal.returns
returns c =
    let one = c.args.one.now in
    slot_adds c.args.slot.now c.args.set.now one c.in_ok-ways.ways c.new-found.result.items c.add_left.new.found.items
    c.add_left-2.new.found.items
    (subst (λ elements. AreWays one.tied.cell one.tied.ties elements 0 None false (accepts c.args.set.now)
    c.in_ok-ways.ways) (c.deref.ensures.value ∙ c.in_ok-elements.ensures) c.in_ok-ways.ensures)
    c.new-found.ensures.items c.in_ok-add_left.ensures c.in_ok-add_left-2.ensures
