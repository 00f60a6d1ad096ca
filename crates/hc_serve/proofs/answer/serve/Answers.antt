use Rattle.hc_serve.proofs.Common.{ap, ◌∙◌, refl, log_of}
use Rattle.hc_serve.proofs.Answered.{served_left, served_ended}
use Rattle.hc_serve.proofs.Costs.{cost_ended, cost_left}
use Rattle.hc_serve.proofs.answer.serve.Goals as goal

pub returns-in-Ok-clause-served : goal.returns-in-Ok-clause-served
returns-in-Ok-clause-served g c =
    served_left _ _ _ _ _ _ _ _ (c.in_ok-log.ensures ∙ ap (log_of c.args.cap) c.as_slice.ensures) c.in-Ok.ensures.step
    refl refl refl

pub returns-in-Err-Refused-clause-served : goal.returns-in-Err-Refused-clause-served
returns-in-Err-Refused-clause-served g c =
    served_ended _ _ _ _ _ _ _ _ (c.in_ok-log.ensures ∙ ap (log_of c.args.cap) c.as_slice.ensures)
    (rw c.in-Err-Refused.field-0-is at c.in-Err-Refused.ensures.step) refl refl refl

pub returns-in-Ok-clause-counted : goal.returns-in-Ok-clause-counted
returns-in-Ok-clause-counted g c = cost_left _ _ _ _ _ c.in-Ok.ensures.counted

pub returns-in-Err-Refused-clause-counted : goal.returns-in-Err-Refused-clause-counted
returns-in-Err-Refused-clause-counted g c =
    cost_ended _ _ _ _ _ (rw c.in-Err-Refused.field-0-is at c.in-Err-Refused.ensures.counted)
