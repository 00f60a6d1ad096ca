use Rattle.hc_session.proofs.Standing.{site_with}
use Rattle.hc_session.proofs.session.Session.follow_at.Goals as goal

pub follow_under-requires-clause-files : goal.follow_under-requires-clause-files
follow_under-requires-clause-files g c = c.requires.site.stands.files c.in-Ok.config c.in-Ok.is

pub returns-in_err-chain-in-Ok-clause-site : goal.returns-in_err-chain-in-Ok-clause-site
returns-in_err-chain-in-Ok-clause-site g c = record {
  main_file = c.requires.site.main_file;
  stands = site_with c.args.self.now.world c.args.site.now c.in-Ok.config c.follow_under.new.files
      c.requires.site.stands c.in-Ok.is c.follow_under.ensures.files;
}

pub returns-in_ok-chain-in-Ok-clause-site : goal.returns-in_ok-chain-in-Ok-clause-site
returns-in_ok-chain-in-Ok-clause-site g c = record {
  main_file = c.requires.site.main_file;
  stands = site_with c.args.self.now.world c.args.site.now c.in-Ok.config c.follow_under.new.files
      c.requires.site.stands c.in-Ok.is c.follow_under.ensures.files;
}
