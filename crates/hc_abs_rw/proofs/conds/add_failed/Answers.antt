use Rattle.hc_abs_rw.proofs.Common.{None, false}
use Rattle.hc_abs_rw.proofs.Trials.{adds_one}
use Rattle.hc_abs_rw.proofs.conds.add_failed.Goals as goal

pub returns-in_ok-push-in-Some : goal.returns-in_ok-push-in-Some
returns-in_ok-push-in-Some c = λ elements.
    adds_one c.args.cond.now c.args.trial false None elements c.args.later.now.items c.push.new.self.items c.args.way
    c.in-Some.way c.in_ok-failed_trial-in-Some.field-0 c.in-Some.is c.in_ok-push-in-Some.ensures.items
    (c.in_ok-failed_trial-in-Some.ensures elements)
