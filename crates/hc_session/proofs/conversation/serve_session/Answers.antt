use Rattle.std.proofs.Common.{arith, subst}
use Rattle.hc_session.proofs.Completing.{completes}
use Rattle.hc_session.specs.Conversation.{Completes}
use Rattle.hc_session.proofs.conversation.serve_session.Goals as goal

pub returns-in-Ok-clause-complete : goal.returns-in-Ok-clause-complete
returns-in-Ok-clause-complete g c = λ source_same sink_same memory.
    subst (λ begin. Completes begin (g.S.Source.left c.args.source.now) (g.K.Sink.written c.args.sink.now)
    (g.K.Sink.written c.serve.new.sink) c.serve.result) c.in-Ok.ensures.session
    (completes _ _ _ _ _ _ _ c.serve.result c.serve.ensures.served
    (λ read. absurd (omega (arith, c.serve.ensures.read_fault read)))
    (λ write. absurd (omega (arith, c.serve.ensures.write_fault write))))
