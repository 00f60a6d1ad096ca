use Rattle.hc_vhost.specs.Servers.{servers_of}
use Rattle.hc_abs_map.proofs.Placing.{path_fits}
use Rattle.hc_abs_map.proofs.placed.add_path.Goals as goal

pub returns : goal.returns
returns c = λ shown.
    path_fits shown (servers_of c.args.config.now c.args.host) c.args.tied c.in_ok-named.named c.in_ok-tidy.tidy
    c.in_ok-rest.rest c.args.found.now.items c.past_dots.new.found.items c.add_stored.new.found.items
    c.in_ok-named.ensures c.in_ok-tidy.ensures c.in_ok-rest.ensures c.in_ok-add_stored.ensures
