use Rattle.hc_vhost.specs.Servers.{servers_of}
use Rattle.hc_abs_map.proofs.Placing.{stored_adds}
use Rattle.hc_abs_map.proofs.placed.add_stored.Goals as goal

pub returns : goal.returns
returns c =
    stored_adds (servers_of c.args.config.now c.args.host) c.in-Some.named c.in_ok-tied.tied c.args.named
    c.in_ok-further.further.items c.args.found.now.items c.append.new.self.items c.in-Some.is c.in_ok-tied.ensures
    c.in_ok-further.ensures c.in_ok-append.ensures.items
