use Rattle.std.proofs.Common.{◌∙◌}
use Rattle.hc_session.proofs.Turned.{ends_given}
use Rattle.hc_session.proofs.session.Session.ends_with.Goals as goal

pub returns-clause-turned : goal.returns-clause-turned
returns-clause-turned g c =
    ends_given c.args.self.now _ c.args.ending c.in_ok-site.site.built c.ends_at-stepped.result
    (c.self.view_is ∙ c.take_site.ensures.same) c.in_ok-site.ensures.built c.ends_at-stepped.ensures.says
