use Rattle.hc_generate.proofs.Ordered.{on_start, on_more, on_end}
use Rattle.hc_generate.specs.Script.{override_step}
use Rattle.hc_generate.specs.declared.draws.TheConstants.{DIRECTORIES}
use Rattle.hc_generate.proofs.run.Run.put_texts.Goals as goal

pub loop-directory-init : goal.loop-directory-init
loop-directory-init g c = on_start override_step DIRECTORIES c.args.self.now _ _

pub loop-directory-preserved : goal.loop-directory-preserved
loop-directory-preserved g c =
    on_more override_step DIRECTORIES _ _ _ _ _ _ _ _ _ _ _ c.loop-directory.invariant c.loop-directory-test.true
    c.text.ensures c.take.ensures.goes c.take.ensures.few

pub returns-clause-goes : goal.returns-clause-goes
returns-clause-goes g c = on_end override_step DIRECTORIES _ _ _ _ _ _ _ c.loop-directory.invariant
    c.loop-directory-test.false
