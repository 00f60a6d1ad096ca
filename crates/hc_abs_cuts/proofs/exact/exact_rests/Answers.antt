use Rattle.hc_abs_cuts.proofs.Named.{exact_rests_are}
use Rattle.hc_abs_cuts.proofs.exact.exact_rests.Goals as goal

pub returns : goal.returns
returns c =
    exact_rests_are c.args.behind.now c.in_ok-all.all c.args.rests.now.plain c.in_ok-made.made c.in_ok-all.ensures
    c.requires.plain c.in_ok-made.ensures
