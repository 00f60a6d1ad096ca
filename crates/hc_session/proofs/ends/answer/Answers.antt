use Rattle.std.proofs.lemmas.Result.{IfOk-weaker}
use Rattle.hc_session.proofs.Claiming.{chains_followed, ends_answered}
use Rattle.hc_session.proofs.ends.answer.Goals as goal

pub returns-in_err-keep-clause-files : goal.returns-in_err-keep-clause-files
returns-in_err-keep-clause-files g c =
    c.keep.ensures.right c.args.scene.config.now c.requires.files
    (rw (c.answer_by.ensures.world, c.answer_by.ensures.config) at c.into_fresh-fresh.ensures.right)

pub returns-clause-files : goal.returns-clause-files
returns-clause-files g c =
    c.keep.ensures.right c.args.scene.config.now c.requires.files
    (rw (c.answer_by.ensures.world, c.answer_by.ensures.config) at c.into_fresh-fresh.ensures.right)

pub returns-clause-says : goal.returns-clause-says
returns-clause-says g c =
    IfOk-weaker c.ended.result _ _
    (λ stepped says. ends_answered c.args.scene c.args.ending c.args.scope.now c.requires.scope c.args.evals.now
    c.answer_by.new.evals c.in_ok-answer.answer stepped c.in_ok-answer.ensures.decided c.in_ok-answer.ensures.holds
    says) c.ended.ensures

pub returns-clause-evals : goal.returns-clause-evals
returns-clause-evals g c =
    chains_followed c.args.scene c.args.ending c.args.scope.now c.requires.scope c.args.evals.now
    c.answer_by.new.evals c.requires.sets c.answer_by.ensures.evals

pub returns-in_err-answer-clause-evals : goal.returns-in_err-answer-clause-evals
returns-in_err-answer-clause-evals g c =
    chains_followed c.args.scene c.args.ending c.args.scope.now c.requires.scope c.args.evals.now
    c.answer_by.new.evals c.requires.sets c.answer_by.ensures.evals

pub returns-in_err-keep-clause-evals : goal.returns-in_err-keep-clause-evals
returns-in_err-keep-clause-evals g c =
    chains_followed c.args.scene c.args.ending c.args.scope.now c.requires.scope c.args.evals.now
    c.answer_by.new.evals c.requires.sets c.answer_by.ensures.evals
