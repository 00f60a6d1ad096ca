use Rattle.hc_match.proofs.Common.{eqb-true}
use Rattle.hc_match.proofs.Fronts.{full_has}
use Rattle.hc_match.proofs.front.is_full.Goals as goal

pub returns-then-set-eq340282366920938463463374607431768211455 :
    goal.returns-then-set-eq340282366920938463463374607431768211455
returns-then-set-eq340282366920938463463374607431768211455 c high =
    full_has c.args.set c.if-set-eq340282366920938463463374607431768211455.true (eqb-true _ _ high)
