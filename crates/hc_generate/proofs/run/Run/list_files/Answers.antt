use Rattle.hc_generate.proofs.Ordered.{on_start, on_more, on_end}
use Rattle.hc_generate.specs.Script.{file_step}
use Rattle.hc_generate.specs.declared.draws.TheConstants.{FILES}
use Rattle.hc_generate.proofs.run.Run.list_files.Goals as goal

pub loop-file-init : goal.loop-file-init
loop-file-init g c = on_start file_step FILES c.args.self.now _ _

pub loop-file-preserved : goal.loop-file-preserved
loop-file-preserved g c =
    on_more file_step FILES _ _ _ _ _ _ _ _ _ _ _ c.loop-file.invariant c.loop-file-test.true c.file.ensures
    c.take.ensures.goes c.take.ensures.few

pub returns-clause-goes : goal.returns-clause-goes
returns-clause-goes g c = on_end file_step FILES _ _ _ _ _ _ _ c.loop-file.invariant c.loop-file-test.false
