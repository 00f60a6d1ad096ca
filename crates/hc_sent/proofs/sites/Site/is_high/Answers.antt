use Rattle.hc_sent.proofs.Doing.{rises}
use Rattle.hc_sent.proofs.Texts.{answer_as}
use Rattle.hc_sent.proofs.sites.Site.is_high.Goals as goal

pub returns : goal.returns
returns c parts before origin site =
    answer_as _ (rises parts before origin c.args.self.now.way.now site.way c.args.self.now.joints.now site.joints)
    c.in_ok-does.ensures
