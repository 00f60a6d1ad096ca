use Rattle.hc_session.proofs.Common.{arith, sym, ◌∙◌, HasNoLf-from_rest_of}
use Rattle.std.proofs.lemmas.Result.{err_from_is_err_and}
use Rattle.hc_session.proofs.AnsweringLoop.{answering_start, answering_line, answering_ended, answering_part}
use Rattle.hc_session.proofs.AnsweringLoop.{answering_end}
use Rattle.hc_session.proofs.serve.answer_lines.Goals as goal

pub loop-end-init : goal.loop-end-init
loop-end-init g c = (
  answering_start _ c.args.line.now c.args.piece.now _ _ c.requires.going (HasNoLf-from_rest_of _ c.requires.unended)
      c.requires.room,
  omega arith,
)

pub loop-end-preserved : goal.loop-end-preserved
loop-end-preserved g c =
    let one = rw (c.as_slice.ensures, c.extend.ensures, c.split_at.ensures.front) at c.in_ok-answer_line.ensures.ok in (
      rw (c.clear.ensures, c.split_at-in-Some.ensures.back, c.split_at.ensures.back)
          (answering_line _ _ _ _ c.loop-end.rest.now c.in-Some.end _ _ _ _ _ _ c.in-Some.ensures c.loop-end.invariant.0
          _ one (sym c.has_ended.ensures ∙ c.if-has_ended.false)),
      omega (arith, c.loop-end.invariant.1, c.answer_line.ensures.cause.later),
    )

pub returns-in_err-answer_line-clause-err : goal.returns-in_err-answer_line-clause-err
returns-in_err-answer_line-clause-err g c =
    let one = rw (c.as_slice.ensures, c.extend.ensures, c.split_at.ensures.front) at c.in_err-answer_line.ensures.err in
    let p = err_from_is_err_and c.from_residual.result c.from_residual.ensures.1 in
    rw p.1 (answering_part _ _ _ _ c.loop-end.rest.now c.in-Some.end _ _ _ _ _ _ c.in-Some.ensures
    c.loop-end.invariant.0 _ one)

pub returns-clause-ok : goal.returns-clause-ok
returns-clause-ok g c =
    (answering_end _ _ _ _ c.loop-end.rest.now _ _ _ _ c.in_default.ensures c.loop-end.invariant.0).0

pub returns-clause-rest : goal.returns-clause-rest
returns-clause-rest g c = λ going. c.extend-2.ensures
    ∙ (answering_end _ _ _ _ c.loop-end.rest.now _ _ _ _ c.in_default.ensures c.loop-end.invariant.0).1

pub returns-then-has_ended-clause-ok : goal.returns-then-has_ended-clause-ok
returns-then-has_ended-clause-ok g c =
    let one = rw (c.as_slice.ensures, c.extend.ensures, c.split_at.ensures.front) at c.in_ok-answer_line.ensures.ok in
    answering_ended _ _ _ _ c.loop-end.rest.now c.in-Some.end _ _ _ _ _ _ c.in-Some.ensures c.loop-end.invariant.0 _ one
    (sym c.has_ended.ensures ∙ c.if-has_ended.true)
