use Rattle.hc_abs_map.proofs.Along.{untaken_ends}
use Rattle.hc_abs_map.proofs.redirects.add_untaken.Goals as goal

pub returns : goal.returns
returns c =
    untaken_ends c.in-Some.tied c.args.rest c.args.found.now.items c.push.new.self.items c.in-Some.is
    c.in_ok-push.ensures.items
