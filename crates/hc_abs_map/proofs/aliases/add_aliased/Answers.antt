use Rattle.hc_abs_map.proofs.Targets.{aliased_taken}
use Rattle.hc_abs_map.proofs.aliases.add_aliased.Goals as goal

pub returns : goal.returns
returns c =
    aliased_taken c.args.alias.now c.args.ties c.in-Some.way c.in_ok-named.named c.args.way c.args.found.now.items
    c.push.new.self.items c.in-Some.is c.in_ok-named.ensures c.in_ok-push.ensures.items
