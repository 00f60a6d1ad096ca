use Rattle.hc_abs_force.proofs.Answering.{adds_one}
use Rattle.hc_abs_force.proofs.marking.add_left.Goals as goal

pub returns-in_ok-push-in-Some : goal.returns-in_ok-push-in-Some
returns-in_ok-push-in-Some c =
    adds_one c.args.one.now c.args.is c.args.found.now.items c.push.new.self.items c.args.way c.in-Some.way
    c.in_ok-left-in-Some.field-0 c.in-Some.is c.in_ok-push-in-Some.ensures.items c.in_ok-left-in-Some.ensures
