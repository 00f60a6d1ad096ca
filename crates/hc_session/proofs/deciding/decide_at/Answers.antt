use Rattle.std.proofs.Common.{subst}
use Rattle.hc_session.proofs.Claiming.{absolute}
use Rattle.hc_session.proofs.Standing.{site_with}
use Rattle.hc_session.specs.Stating.{IsConfiguration}
use Rattle.hc_session.proofs.deciding.decide_at.Goals as goal

pub decide_under-requires-clause-absolute : goal.decide_under-requires-clause-absolute
decide_under-requires-clause-absolute g c =
    absolute c.in-Ok.config (subst IsConfiguration c.in-Ok.is c.requires.built)

pub decide_under-requires-clause-files : goal.decide_under-requires-clause-files
decide_under-requires-clause-files g c = c.requires.site.files c.in-Ok.config c.in-Ok.is

pub returns-in-Ok-clause-site : goal.returns-in-Ok-clause-site
returns-in-Ok-clause-site g c =
    site_with c.args.world.now c.args.site.now c.in-Ok.config c.decide_under.new.files c.requires.site c.in-Ok.is
    c.decide_under.ensures.files
