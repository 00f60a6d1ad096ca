use Rattle.hc_sent.proofs.MadeSets.{asks_set}
use Rattle.hc_sent.proofs.making.asking.Goals as goal

pub returns : goal.returns
returns c =
    asks_set c.args.filled.now c.args.queries.now _ _ _ _ _ _ _ c.in_ok-asked.ensures c.in_ok-with.ensures
    c.in_ok-without.ensures c.in_ok-kept.ensures c.in_ok-none.ensures c.in_ok-dropped.ensures c.in_ok-made.ensures
