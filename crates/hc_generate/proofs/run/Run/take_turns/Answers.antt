use Rattle.hc_generate.proofs.Ordered.{on_start, on_more, on_end}
use Rattle.hc_generate.specs.Script.{turn}
use Rattle.hc_generate.specs.declared.draws.TheConstants.{TURNS}
use Rattle.hc_generate.proofs.run.Run.take_turns.Goals as goal

pub loop-number-init : goal.loop-number-init
loop-number-init g c = on_start (λ number. turn) TURNS c.args.self.now _ _

pub loop-number-preserved : goal.loop-number-preserved
loop-number-preserved g c =
    on_more (λ number. turn) TURNS _ _ _ _ _ _ _ _ _ _ _ c.loop-number.invariant c.loop-number-test.true c.turn.ensures
    c.take.ensures.goes c.take.ensures.few

pub returns-clause-goes : goal.returns-clause-goes
returns-clause-goes g c = on_end (λ number. turn) TURNS _ _ _ _ _ _ _ c.loop-number.invariant c.loop-number-test.false
