use Rattle.hc_abs_pass.proofs.Common.{false, subst}
use Rattle.hc_dfa.specs.Automata.{accepts}
use Rattle.hc_plan.specs.Ways.{IsTested, on}
use Rattle.hc_abs_pass.proofs.walk.left_out.Goals as goal

pub returns : goal.returns
returns c =
    let named = c.args.named.now in record {
      set = c.in_ok-set.set;
      are = c.in_ok-set.ensures;
      tested = subst (λ text. IsTested named.tied.cell named.tied.ties text 0 named.side
          (on false (accepts c.in_ok-set.set)) c.in_ok-way.way) c.deref.ensures.value c.in_ok-way.ensures;
    }
