use Rattle.hc_session.proofs.Common.{arith, refl, sym, ◌∙◌, eqb-true, nil_from_length}
use Rattle.hc_session.proofs.Serving.{serving_start, serving_unended, serving_more, served_ended, served_write_fault}
use Rattle.hc_session.proofs.Serving.{served_read_fault, served_at_end, served_long_line, served_long_script}
use Rattle.hc_session.proofs.conversation.serve.Goals as goal
use Rattle.hc_session.proofs.conversation.serve.Goals.{then-reads-test+else-taken-lt-SCRIPT_LIMIT, else-reads-test}

pub answer_lines-requires-clause-unended : goal.answer_lines-requires-clause-unended
answer_lines-requires-clause-unended g c = serving_unended _ _ _ _ _ _ _ _ _ _ c.reads.invariant.0

pub returns-then-is_empty-clause-served : goal.returns-then-is_empty-clause-served
returns-then-is_empty-clause-served g c =
    let read = c.in-Ok.ensures in
    let none = nil_from_length c.in-Ok.piece.now (eqb-true _ 0 (sym c.is_empty.ensures ∙ c.if-is_empty.true)) in
    rw c.end_of_input.ensures
    (served_at_end _ _ _ _ _ _ _ _ _ _ c.reads.invariant.0 _ c.in-Ok.piece.now none read.bytes read.end
    (omega (arith, c.len.ensures)) c.if-taken-lt-SCRIPT_LIMIT.true)

pub returns-in_default-clause-served : goal.returns-in_default-clause-served
returns-in_default-clause-served g c =
    served_read_fault _ _ _ _ _ _ _ _ _ _ c.reads.invariant.0 _ c.in_default.ensures.err (omega (arith, c.len.ensures))
    c.if-taken-lt-SCRIPT_LIMIT.true

pub returns-then-len-lt-LINE_LIMIT-clause-served : goal.returns-then-len-lt-LINE_LIMIT-clause-served
returns-then-len-lt-LINE_LIMIT-clause-served g c =
    served_long_script _ _ _ _ _ _ _ _ _ _ c.reads.invariant.0 (omega (arith, c.len-2.ensures))
    (elim c.reads-test.branch [
      | then-reads-test+else-taken-lt-SCRIPT_LIMIT w ↦ omega arith
      | else-reads-test w ↦ omega
          (arith, c.len.ensures, c.len-2.ensures)
    ])

pub returns-else-len-lt-LINE_LIMIT-clause-served : goal.returns-else-len-lt-LINE_LIMIT-clause-served
returns-else-len-lt-LINE_LIMIT-clause-served g c =
    served_long_line _ _ _ _ _ _ _ _ _ _ c.reads.invariant.0 (omega (arith, c.len-2.ensures))

pub reads-preserved : goal.reads-preserved
reads-preserved g c =
    let read = c.in-Ok.ensures in
    let answered = c.in-Ok-answer_lines.ensures in
    let going = sym c.has_ended.ensures ∙ c.if-has_ended.false in (
      serving_more _ _ _ _ _ _ _ _ _ _ _ c.reads.invariant.0 c.in-Ok.piece.now read.bytes (omega (arith, read.bound))
          (omega (arith, read.bound)) _ _ _ _ _ refl answered.ok going (answered.rest going),
      omega (arith, c.fill.ensures.cause.later),
      omega (arith, c.answer_lines.ensures.cause.later),
    )

pub returns-in_default-answer_lines-clause-served : goal.returns-in_default-answer_lines-clause-served
returns-in_default-answer_lines-clause-served g c =
    let read = c.in-Ok.ensures in
    served_write_fault _ _ _ _ _ _ _ _ _ _ _ c.reads.invariant.0 c.in-Ok.piece.now read.bytes (omega (arith, read.bound))
    (omega (arith, read.bound)) _ _ c.in_default-answer_lines.ensures.err

pub returns-then-has_ended-clause-served : goal.returns-then-has_ended-clause-served
returns-then-has_ended-clause-served g c =
    let read = c.in-Ok.ensures in
    served_ended _ _ _ _ _ _ _ _ _ _ _ c.reads.invariant.0 c.in-Ok.piece.now read.bytes (omega (arith, read.bound))
    (omega (arith, read.bound)) _ _ _ c.in-Ok-answer_lines.ensures.ok
    (sym c.has_ended.ensures ∙ c.if-has_ended.true)

pub reads-init : goal.reads-init
reads-init g c = (serving_start _ _ _ _ _ c.requires.going c.requires.line, omega arith, omega arith)
