use Rattle.hc_generate.proofs.Ordered.{IsOn}
use Rattle.hc_session.specs.Session.{work}
use Rattle.hc_generate.specs.Script.{turn}
use Rattle.hc_generate.specs.declared.draws.TheConstants.{TURNS}
use Rattle.hc_generate.proofs.run.Run.take_turns.Given as goal

abbrev pub invariant-loop-number : goal.invariant-loop-number
invariant-loop-number g l = IsOn (λ number. turn) TURNS l.fn.self l.self l.fn.draws.x l.draws.x l.number
    (work l.fn.evals l.fn.bytes) (work l.evals l.bytes)
