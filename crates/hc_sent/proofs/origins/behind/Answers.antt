use Rattle.hc_sent.proofs.Behind.{behind_accepts}
use Rattle.hc_sent.proofs.origins.behind.Goals as goal

pub returns : goal.returns
returns c =
    behind_accepts c.args.origin.now c.args.kind _ _ _ c.in_ok-roots.ensures c.in_ok-rests.ensures c.in_ok-made.ensures
