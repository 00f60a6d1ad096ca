use Rattle.hc_abs_cuts.proofs.Named.{exact_set_is}
use Rattle.hc_abs_cuts.proofs.exact.exact_set.Goals as goal

pub returns : goal.returns
returns c =
    exact_set_is c.args.end.now c.as_bytes.result.now c.in_ok-own.own c.in_ok-made.made c.as_bytes.ensures
    c.in_ok-own.ensures c.in_ok-made.ensures
