use Rattle.std.proofs.Common.{subst}
use Rattle.hc_session.proofs.Claiming.{absolute}
use Rattle.hc_session.proofs.Standing.{site_with}
use Rattle.hc_session.specs.Stating.{IsConfiguration}
use Rattle.hc_session.proofs.ends.ends_at.Goals as goal

pub ends_under-requires-clause-absolute : goal.ends_under-requires-clause-absolute
ends_under-requires-clause-absolute g c =
    absolute c.in-Ok.config (subst IsConfiguration c.in-Ok.is c.requires.built)

pub ends_under-requires-clause-files : goal.ends_under-requires-clause-files
ends_under-requires-clause-files g c = c.requires.site.files c.in-Ok.config c.in-Ok.is

pub returns-in-Ok-clause-site : goal.returns-in-Ok-clause-site
returns-in-Ok-clause-site g c =
    site_with c.args.world.now c.args.site.now c.in-Ok.config c.ends_under.new.files c.requires.site c.in-Ok.is
    c.ends_under.ensures.files
