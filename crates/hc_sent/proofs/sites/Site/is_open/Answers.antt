use Rattle.hc_sent.proofs.Doing.{opens}
use Rattle.hc_sent.proofs.Texts.{answer_as}
use Rattle.hc_sent.proofs.sites.Site.is_open.Goals as goal

pub returns : goal.returns
returns c parts before origin site =
    answer_as _ (opens parts before origin c.args.self.now.way.now site.way c.args.self.now.joints.now site.joints)
    c.in_ok-does.ensures
