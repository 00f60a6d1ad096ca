use Rattle.hc_sent.proofs.Slashing.{slashed_accept}
use Rattle.hc_sent.proofs.sets.slashed.Goals as goal

pub returns : goal.returns
returns c =
    slashed_accept c.args.set.now _ _ _ _ _ c.in_ok-absolute.ensures c.in_ok-paths.ensures c.in_ok-others.ensures
    c.in_ok-behind.ensures c.in_ok-made.ensures
