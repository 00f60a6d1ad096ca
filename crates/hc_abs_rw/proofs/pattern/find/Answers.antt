use Rattle.hc_abs_rw.proofs.Common.{subst}
use Rattle.hc_dfa.specs.Automata.{accepts}
use Rattle.hc_abs_rw.specs.Trials.{AreWays}
use Rattle.hc_abs_rw.proofs.Looking.{looked_adds}
use Rattle.hc_abs_rw.proofs.pattern.find.Goals as goal

pub returns : goal.returns
returns c =
    let subject = c.args.subject in
    looked_adds c.args.rule.now subject (accepts c.args.set.now) c.in_ok-ways.ways c.args.found.now.items
    c.add_held.new.found.items c.add_failed.new.found.items c.requires
    (subst (λ elements. AreWays subject.cell subject.ties elements subject.off subject.side c.args.rule.now.negated
    (accepts c.args.set.now) c.in_ok-ways.ways) c.deref.ensures.value c.in_ok-ways.ensures)
    c.in_ok-add_held.ensures (c.in_ok-add_failed.ensures subject.elements.items subject.off)
