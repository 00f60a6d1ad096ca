use Rattle.hc_abs_cuts.proofs.Named.{plain_is}
use Rattle.hc_abs_cuts.proofs.exact.Rests.new.Goals as goal

pub returns-clause-plain : goal.returns-clause-plain
returns-clause-plain c =
    plain_is c.in_ok-every.every c.in_ok-plain.plain c.in_ok-every.ensures c.in_ok-plain.ensures
