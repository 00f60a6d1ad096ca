use Rattle.std.proofs.lemmas.Result.{IfOk-weaker}
use Rattle.hc_session.proofs.Claiming.{answered}
use Rattle.hc_session.specs.Stating.{asked_at}
use Rattle.hc_session.proofs.deciding.answer.Goals as goal

pub returns-in_err-keep-clause-files : goal.returns-in_err-keep-clause-files
returns-in_err-keep-clause-files g c =
    c.keep.ensures.right c.args.scene.config.now c.requires.files
    (rw (c.answer_by.ensures.world, c.answer_by.ensures.config) at c.into_fresh-fresh.ensures.right)

pub returns-clause-files : goal.returns-clause-files
returns-clause-files g c =
    c.keep.ensures.right c.args.scene.config.now c.requires.files
    (rw (c.answer_by.ensures.world, c.answer_by.ensures.config) at c.into_fresh-fresh.ensures.right)

pub returns-clause-says : goal.returns-clause-says
returns-clause-says g c =
    IfOk-weaker c.decided.result _ _
    (λ stepped says. answered c.args.scene.limit c.args.evals.now c.answer_by.new.evals
    (asked_at c.args.scene c.args.stated.now) c.in_ok-answer.answer stepped c.in_ok-answer.ensures.decided
    c.in_ok-answer.ensures.holds says) c.decided.ensures
