use Rattle.hc_abs_again.proofs.Arriving.{each_has_arrival}
use Rattle.hc_abs_again.proofs.laws.each_has_arrival.Goals as goal

pub returns : goal.returns
returns c = each_has_arrival
