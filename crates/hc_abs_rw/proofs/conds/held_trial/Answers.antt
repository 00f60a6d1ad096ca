use Rattle.hc_abs_rw.proofs.Common.{refl, subst}
use Rattle.hc_abs_rw.specs.Trials.{CondsLeft, grouping}
use Rattle.hc_abs_rw.proofs.conds.held_trial.Goals as goal

pub returns : goal.returns
returns c = record {
  cell = refl;
  ties = refl;
  groups_left = c.in_ok-groups.ensures;
  conds = subst (λ sets. CondsLeft (grouping c.args.cond.now) c.args.trial.now.known c.args.elements.items sets
      c.args.way.side c.in_ok-cond_groups.cond_groups) c.in_ok-own.ensures.cases c.in_ok-cond_groups.ensures;
  decisions = c.in_ok-decisions.ensures;
  holds = refl;
}
