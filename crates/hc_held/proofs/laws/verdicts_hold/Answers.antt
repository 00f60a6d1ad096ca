use Rattle.hc_held.proofs.Accepting.{verdicts_hold}
use Rattle.hc_held.proofs.laws.verdicts_hold.Goals as goal

pub returns : goal.returns
returns c = verdicts_hold
