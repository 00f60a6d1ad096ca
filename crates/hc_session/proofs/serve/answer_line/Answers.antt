use Rattle.std.proofs.lemmas.Result.{on_ok_weaker, on_err_weaker}
use Rattle.hc_session.proofs.Answering.{answers_no_memory, answers_no_memory_in_part, answers_stepped}
use Rattle.hc_session.proofs.Answering.{answers_stepped_in_part}
use Rattle.hc_session.proofs.serve.answer_line.Goals as goal

pub returns-in-Ok-clause-ok : goal.returns-in-Ok-clause-ok
returns-in-Ok-clause-ok g c =
    on_ok_weaker c.send.result
    (λ wrote. answers_stepped _ _ _ _ _ _ _ c.in-Ok.stepped c.in-Ok.ensures.turned c.in-Ok.ensures.evals
    c.in-Ok.ensures.bytes (rw c.as_bytes.ensures at wrote)) c.send.ensures.ok

pub returns-in-Ok-clause-err : goal.returns-in-Ok-clause-err
returns-in-Ok-clause-err g c =
    on_err_weaker c.send.result
    (λ wrote. answers_stepped_in_part _ _ _ _ _ _ _ c.in-Ok.stepped c.in-Ok.ensures.turned c.in-Ok.ensures.evals
    c.in-Ok.ensures.bytes (rw c.as_bytes.ensures at wrote)) c.send.ensures.err

pub returns-in-Err-clause-ok : goal.returns-in-Err-clause-ok
returns-in-Err-clause-ok g c =
    on_ok_weaker c.send-in-Err.result (answers_no_memory _ _ _ _ _ _ _ c.in-Err.ensures.turned c.in-Err.ensures.evals)
    c.send-in-Err.ensures.ok

pub returns-in-Err-clause-err : goal.returns-in-Err-clause-err
returns-in-Err-clause-err g c =
    on_err_weaker c.send-in-Err.result
    (answers_no_memory_in_part _ _ _ _ _ _ _ c.in-Err.ensures.turned c.in-Err.ensures.evals) c.send-in-Err.ensures.err
