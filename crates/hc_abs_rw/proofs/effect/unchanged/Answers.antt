use Rattle.hc_abs_rw.proofs.Effects.{end_found}
use Rattle.hc_abs_rw.proofs.effect.unchanged.Goals as goal

pub returns : goal.returns
returns c client caller =
    end_found client caller c.args.known c.args.next _ _ c.nothing.result c.new-found.ensures.items
    c.in_ok-push.ensures.items c.nothing.ensures
