use Rattle.std.proofs.lemmas.Result.{IfOk-weaker}
use Rattle.hc_session.proofs.Claiming.{verified}
use Rattle.hc_session.specs.Stating.{asked_at}
use Rattle.hc_session.proofs.verifying.checked.Goals as goal

pub returns-in_err-keep-clause-files : goal.returns-in_err-keep-clause-files
returns-in_err-keep-clause-files g c =
    c.keep.ensures.right c.args.scene.config.now c.requires.files
    (rw (c.checked_by.ensures.world, c.checked_by.ensures.config) at c.into_fresh-fresh.ensures.right)

pub returns-clause-files : goal.returns-clause-files
returns-clause-files g c =
    c.keep.ensures.right c.args.scene.config.now c.requires.files
    (rw (c.checked_by.ensures.world, c.checked_by.ensures.config) at c.into_fresh-fresh.ensures.right)

pub returns-clause-says : goal.returns-clause-says
returns-clause-says g c =
    IfOk-weaker c.verified.result _ _
    (λ stepped says. verified (asked_at c.args.scene c.args.stated.now) c.args.cells.now c.in_ok-verdict.verdict
    stepped c.requires.absolute c.in_ok-verdict.ensures.valid c.in_ok-verdict.ensures.verdict says)
    c.verified.ensures
