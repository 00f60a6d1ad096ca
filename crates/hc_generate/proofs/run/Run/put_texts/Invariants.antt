use Rattle.hc_generate.proofs.Ordered.{IsOn}
use Rattle.hc_session.specs.Session.{work}
use Rattle.hc_generate.specs.Script.{override_step}
use Rattle.hc_generate.specs.declared.draws.TheConstants.{DIRECTORIES}
use Rattle.hc_generate.proofs.run.Run.put_texts.Given as goal

abbrev pub invariant-loop-directory : goal.invariant-loop-directory
invariant-loop-directory g l = IsOn override_step DIRECTORIES l.fn.self l.self l.fn.draws.x l.draws.x l.directory
    (work l.fn.evals l.fn.bytes) (work l.evals l.bytes)
