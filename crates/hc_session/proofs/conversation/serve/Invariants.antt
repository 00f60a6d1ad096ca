use Rattle.hc_session.proofs.Common.{◌-◌, ◌≤◌, SCRIPT_LIMIT}
use Rattle.hc_session.proofs.Serving.{Serving}
use Rattle.hc_session.specs.Session.{work}
use Rattle.hc_session.proofs.conversation.serve.Given as goal

abbrev pub invariant-reads : goal.invariant-reads
invariant-reads g l =
    Serving l.initial.session (g.S.Source.left l.initial.source) (g.S.Source.left l.source) (g.K.Sink.written l.initial.sink)
    (g.K.Sink.written l.sink) l.session l.line l.taken (work l.initial.evals l.initial.bytes) (work l.evals l.bytes)
    × (g.S.Source.faults l.initial.source ≤ g.S.Source.faults l.source)
    × (g.K.Sink.faults l.initial.sink ≤ g.K.Sink.faults l.sink)

abbrev pub decreases-reads : goal.decreases-reads
decreases-reads g l = SCRIPT_LIMIT - l.taken
