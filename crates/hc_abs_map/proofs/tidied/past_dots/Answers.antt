use Rattle.hc_abs_map.proofs.Common.{false, subst}
use Rattle.hc_dfa.specs.Automata.{accepts}
use Rattle.hc_abs_rw.specs.Trials.{AreWays}
use Rattle.hc_abs_map.proofs.Names.{dots_go}
use Rattle.hc_abs_map.proofs.tidied.past_dots.Goals as goal

pub returns : goal.returns
returns c =
    let named = c.args.named in
    dots_go named c.in_ok-set.set c.in_ok-ways.ways c.named_on.result c.args.found.now.items c.add_over.new.found.items
    c.in_ok-set.ensures
    (subst (λ items. AreWays named.tied.cell named.tied.ties items 0 named.side false (accepts c.in_ok-set.set)
    c.in_ok-ways.ways) c.deref.ensures.value c.in_ok-ways.ensures) c.in_ok-add_over.ensures c.named_on.ensures
