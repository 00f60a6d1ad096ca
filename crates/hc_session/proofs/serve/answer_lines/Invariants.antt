use Rattle.std.proofs.Common.{◌≤◌, ◌++◌, length}
use Rattle.hc_session.proofs.AnsweringLoop.{Answering}
use Rattle.hc_session.specs.Session.{work}
use Rattle.hc_session.proofs.serve.answer_lines.Given as goal

abbrev pub invariant-loop-end : goal.invariant-loop-end
invariant-loop-end g l =
    Answering l.initial.session l.session (l.initial.line ++ l.piece) l.line l.rest (g.K.Sink.written l.initial.sink)
    (g.K.Sink.written l.sink) (work l.initial.evals l.initial.bytes) (work l.evals l.bytes)
    × (g.K.Sink.faults l.initial.sink ≤ g.K.Sink.faults l.sink)

abbrev pub decreases-loop-end : goal.decreases-loop-end
decreases-loop-end g l = length l.rest
