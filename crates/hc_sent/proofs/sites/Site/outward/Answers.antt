use Rattle.std.proofs.Common.{refl}
use Rattle.hc_sent.proofs.sites.Site.outward.Goals as goal

pub returns-then-not-branch : goal.returns-then-not-branch
returns-then-not-branch c parts before origin site =
    let fails = c.in_ok-may_fail.ensures parts before origin site in rw c.if-not-branch.true at fails

pub returns : goal.returns
returns c parts before origin site =
    let fails = c.in_ok-may_fail.ensures parts before origin site in (rw c.if-not-branch.false at fails, refl)
