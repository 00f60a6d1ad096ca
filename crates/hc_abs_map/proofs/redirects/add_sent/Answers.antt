use Rattle.hc_abs_map.proofs.Along.{sent_taken}
use Rattle.hc_abs_map.proofs.redirects.add_sent.Goals as goal

pub returns : goal.returns
returns c =
    sent_taken c.args.redirect.now c.args.ties c.in-Some.way c.in_ok-sent.sent c.args.way c.args.found.now.items
    c.push.new.self.items c.in-Some.is c.in_ok-sent.ensures c.in_ok-push.ensures.items
