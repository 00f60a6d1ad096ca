use Rattle.hc_abs_map.proofs.Common.{◌∙◌, None, false, subst}
use Rattle.hc_dfa.specs.Automata.{accepts}
use Rattle.hc_abs_rw.specs.Trials.{AreWays}
use Rattle.hc_abs_map.proofs.entries.taking.Goals as goal

pub returns : goal.returns
returns c =
    let tied = c.args.tied.now in (
      c.in_ok-set.set,
      c.in_ok-set.ensures,
      subst (λ elements. AreWays tied.cell tied.ties elements 0 None false (accepts c.in_ok-set.set) c.in_ok-ways.ways)
          (c.deref.ensures.value ∙ c.in_ok-elements.ensures) c.in_ok-ways.ensures,
    )
