use Rattle.hc_sent.proofs.Doing.{hides}
use Rattle.hc_sent.proofs.Texts.{answer_as}
use Rattle.hc_sent.proofs.sites.Site.hides_question.Goals as goal

pub returns : goal.returns
returns c parts before origin site =
    answer_as _ (hides parts before origin c.args.self.now.way.now site.way c.args.self.now.joints.now site.joints)
    c.in_ok-does.ensures
