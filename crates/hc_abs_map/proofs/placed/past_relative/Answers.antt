use Rattle.hc_abs_map.proofs.Common.{◌∙◌, None, false, subst}
use Rattle.hc_dfa.specs.Automata.{accepts}
use Rattle.hc_abs_rw.specs.Trials.{AreWays}
use Rattle.hc_abs_map.proofs.Placing.{absolute_goes}
use Rattle.hc_abs_map.proofs.placed.past_relative.Goals as goal

pub returns : goal.returns
returns c =
    let tied = c.args.tied in
    absolute_goes tied c.in_ok-set.set c.in_ok-ways.ways
    (subst (λ items. AreWays tied.cell tied.ties items 0 None false (accepts c.in_ok-set.set) c.in_ok-ways.ways)
    (c.deref.ensures.value ∙ c.in_ok-text.ensures) c.in_ok-ways.ensures)
    c.tied_on.result c.args.found.now.items c.add_over.new.found.items c.in_ok-set.ensures c.in_ok-add_over.ensures
    c.tied_on.ensures
