use Rattle.hc_session.proofs.asking.answer.Goals as goal

pub returns-in_err-keep-clause-files : goal.returns-in_err-keep-clause-files
returns-in_err-keep-clause-files g c =
    c.keep.ensures.right c.args.config.now c.requires.files
    (rw (c.answer_by.ensures.world, c.answer_by.ensures.config) at c.into_fresh-fresh.ensures.right)

pub returns-clause-files : goal.returns-clause-files
returns-clause-files g c =
    c.keep.ensures.right c.args.config.now c.requires.files
    (rw (c.answer_by.ensures.world, c.answer_by.ensures.config) at c.into_fresh-fresh.ensures.right)
