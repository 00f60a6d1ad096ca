use Rattle.hc_generate.proofs.Ordered.{IsOn}
use Rattle.hc_session.specs.Session.{work}
use Rattle.hc_generate.specs.Script.{file_step}
use Rattle.hc_generate.specs.declared.draws.TheConstants.{FILES}
use Rattle.hc_generate.proofs.run.Run.list_files.Given as goal

abbrev pub invariant-loop-file : goal.invariant-loop-file
invariant-loop-file g l = IsOn file_step FILES l.fn.self l.self l.fn.draws.x l.draws.x l.file
    (work l.fn.evals l.fn.bytes) (work l.evals l.bytes)
