use Rattle.hc_sent.proofs.Doing.{stays}
use Rattle.hc_sent.proofs.Texts.{answer_as}
use Rattle.hc_sent.proofs.sites.Site.may_stay.Goals as goal

pub returns : goal.returns
returns c parts before origin site =
    answer_as _ (stays parts before origin c.args.self.now.way.now site.way c.args.self.now.joints.now site.joints)
    c.in_ok-does.ensures
