use Rattle.hc_vhost.specs.Servers.{servers_of}
use Rattle.hc_abs_map.proofs.Behind.{sent_behind, unsent_behind}
use Rattle.hc_abs_map.proofs.map.add_behind.Goals as goal

pub returns-in_ok-push-in-Some : goal.returns-in_ok-push-in-Some
returns-in_ok-push-in-Some c =
    sent_behind (servers_of c.args.config.now c.args.host) c.args.one c.args.found.now.items c.push.new.self.items
    c.in-Some.left c.in-Some.is c.in_ok-push-in-Some.ensures.items

pub returns-in_ok-add_unsent-in-None : goal.returns-in_ok-add_unsent-in-None
returns-in_ok-add_unsent-in-None c =
    unsent_behind (servers_of c.args.config.now c.args.host) c.args.one c.args.found.now.items
    c.add_unsent.new.found.items c.in-None.is c.in_ok-add_unsent-in-None.ensures
