use Rattle.hc_generate.proofs.Going.{goes_answered, goes_refused}
use Rattle.hc_generate.proofs.run.Run.answer.Goals as goal

pub returns-in-Ok-clause-goes : goal.returns-in-Ok-clause-goes
returns-in-Ok-clause-goes g c = λ left.
    let gave = c.in-Ok.ensures.turned in
    goes_answered _ _ _ gave.0 left _ _ c.requires.going gave.2 gave.1.answers
    (rw gave.1.counted at c.count.ensures.tally) c.in-Ok.stepped c.in-Ok.ensures.evals c.in-Ok.ensures.bytes

pub returns-in-Err-clause-goes : goal.returns-in-Err-clause-goes
returns-in-Err-clause-goes g c = λ left.
    goes_refused _ _ _ left _ _ c.requires.going c.in-Err.ensures.turned c.count_refusal.ensures.tally
    _ c.in-Err.ensures.evals
