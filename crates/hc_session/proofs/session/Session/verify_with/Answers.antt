use Rattle.std.proofs.Common.{◌∙◌}
use Rattle.hc_session.proofs.Turned.{verify_given}
use Rattle.hc_session.proofs.session.Session.verify_with.Goals as goal

pub returns-clause-turned : goal.returns-clause-turned
returns-clause-turned g c =
    verify_given c.args.self.now _ c.args.verifying c.in_ok-site.site.lines c.in_ok-site.site.built
    c.verify_at-stepped.result (c.self.view_is ∙ c.take_site.ensures.same) c.in_ok-site.ensures.built
    c.in_ok-site.ensures.lines c.verify_at-stepped.ensures.says
