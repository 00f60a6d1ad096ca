use Rattle.std.proofs.Common.{refl, sym, ◌∙◌}
use Rattle.hc_session.proofs.Answering.{none_counted}
use Rattle.hc_generate.proofs.Going.{goes_ended, goes_refused}
use Rattle.hc_generate.proofs.run.Run.take.Goals as goal

pub returns-then-has_ended-clause-goes : goal.returns-then-has_ended-clause-goes
returns-then-has_ended-clause-goes g c = λ left. goes_ended _ _ _ _ (sym c.has_ended.ensures ∙ c.if-has_ended.true)

pub returns-in-Ok-clause-goes : goal.returns-in-Ok-clause-goes
returns-in-Ok-clause-goes g c = λ left.
    rw (c.as_bytes.ensures, c.in-Ok.ensures) at c.answer.ensures.goes _

pub returns-in-Err-clause-goes : goal.returns-in-Err-clause-goes
returns-in-Err-clause-goes g c = λ left.
    goes_refused _ _ _ _ _ _ (sym c.has_ended.ensures ∙ c.if-has_ended.false) refl c.count_refusal.ensures.tally
    _ (none_counted _ _ _ _)
