use Rattle.hc_abs_map.proofs.Names.{adds_name}
use Rattle.hc_abs_map.proofs.tidied.add_named.Goals as goal

pub returns : goal.returns
returns c =
    adds_name c.in-Some.named c.args.aliased c.args.named c.args.found.now.items c.push.new.self.items c.in-Some.is
    c.in_ok-push.ensures.items
