use Rattle.hc_abs_rw.proofs.Common.{subst, None}
use Rattle.hc_dfa.specs.Automata.{accepts}
use Rattle.hc_abs_rw.specs.Elements.{AreExpanded}
use Rattle.hc_abs_rw.specs.Known.{frame_at}
use Rattle.hc_abs_rw.specs.Trials.{AreWays}
use Rattle.hc_abs_rw.proofs.Trials.{tried_adds}
use Rattle.hc_abs_rw.proofs.conds.try_cond.Goals as goal

pub returns : goal.returns
returns g c =
    let frame = frame_at g.S.Surroundings.kind g.S.Surroundings.values c.args.frame.now in
    let known = c.args.trial.known in
    let elements = c.in_ok-elements.elements.items in
    tried_adds frame c.args.frame.now.client c.args.cond.now c.args.trial elements (accepts c.args.set.now) c.in_ok-ways.ways
    c.args.later.now.items c.add_held.new.later.items c.add_failed.new.later.items
    (subst (λ pieces. AreExpanded frame c.args.frame.now.client known pieces elements) c.as_slice.ensures
    c.in_ok-elements.ensures)
    c.requires
    (subst (λ elements. AreWays known.cell known.ties elements 0 None c.args.cond.now.negated (accepts c.args.set.now)
    c.in_ok-ways.ways) c.deref.ensures.value c.in_ok-ways.ensures)
    c.in_ok-add_held.ensures (c.in_ok-add_failed.ensures elements)
