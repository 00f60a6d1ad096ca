use Rattle.hc_claim.proofs.Holding.{answers_hold}
use Rattle.hc_claim.proofs.laws.answers_hold.Goals as goal

pub returns : goal.returns
returns c = answers_hold
