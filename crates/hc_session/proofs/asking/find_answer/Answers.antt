use Rattle.hc_session.proofs.Standing.{site_with}
use Rattle.hc_session.proofs.asking.find_answer.Goals as goal

pub answer-requires-clause-files : goal.answer-requires-clause-files
answer-requires-clause-files g c = c.requires.site.files c.in-Ok.config c.in-Ok.is

pub returns-in-Ok-answer-clause-site : goal.returns-in-Ok-answer-clause-site
returns-in-Ok-answer-clause-site g c = site_with c.args.world.now c.args.site.now c.in-Ok.config c.answer.new.files
    c.requires.site c.in-Ok.is c.answer.ensures.files

pub returns-in-Err-answer-clause-site : goal.returns-in-Err-answer-clause-site
returns-in-Err-answer-clause-site g c = site_with c.args.world.now c.args.site.now c.in-Ok.config c.answer.new.files
    c.requires.site c.in-Ok.is c.answer.ensures.files
