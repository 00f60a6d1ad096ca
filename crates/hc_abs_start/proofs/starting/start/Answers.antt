use Rattle.std.proofs.Common.{◌∙◌, [], ◌∷◌, ap, subst}
use Rattle.hc_dfa.specs.Built.{Accepts}
use Rattle.hc_dfa.specs.Singles.{is_among}
use Rattle.hc_members.specs.Requests.{is_listed}
use Rattle.hc_plan.specs.Slots.{Slot}
use Rattle.hc_plan.specs.Texts.{of_bytes}
use Rattle.hc_abs_start.proofs.Puts.{first_put}
use Rattle.hc_abs_start.specs.Starting.{emptied, of_target, put_each}
use Rattle.hc_abs_start.proofs.starting.start.Goals as goal

pub returns : goal.returns
returns c =
    let scope = c.args.scope.now in
    record {
      cell =
          c.in_ok-cell.ensures (is_listed scope.methods)
          (subst (λ texts. Accepts c.in_ok-methods.methods (is_among texts)) c.as_slice.ensures
          c.in_ok-methods.ensures)
          ∙ ap (put_each (Slot.Method ∷ []) (of_bytes (is_listed scope.methods)))
          (c.in_ok-targets.ensures
          ∙ ap (of_target scope) (c.in_ok-emptied.ensures ∙ ap emptied c.in_ok-named.ensures))
          ∙ first_put scope c.args.variables.now c.args.headers.now;
      ties = c.first_ties.ensures;
    }
