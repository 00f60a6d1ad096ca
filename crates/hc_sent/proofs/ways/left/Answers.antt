use Rattle.hc_sent.proofs.Leaving.{left_accepts}
use Rattle.hc_sent.proofs.ways.left.Goals as goal

pub returns : goal.returns
returns c =
    left_accepts c.args.origin.now c.args.texts.now _ _ _ _ c.in_ok-roots.ensures c.in_ok-left.ensures
    c.in_ok-rests.ensures c.in_ok-made.ensures
