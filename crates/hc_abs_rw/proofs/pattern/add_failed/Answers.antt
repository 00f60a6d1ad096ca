use Rattle.hc_abs_rw.proofs.Common.{None, false}
use Rattle.hc_abs_rw.proofs.Looking.{adds_one}
use Rattle.hc_abs_rw.proofs.pattern.add_failed.Goals as goal

pub returns-in_ok-push-in-Some : goal.returns-in_ok-push-in-Some
returns-in_ok-push-in-Some c = λ elements off.
    adds_one c.args.ties false None elements off c.args.found.now.items c.push.new.self.items c.args.way c.in-Some.way
    c.failed_look.result c.in-Some.is c.in_ok-push-in-Some.ensures.items (c.failed_look.ensures elements off)
