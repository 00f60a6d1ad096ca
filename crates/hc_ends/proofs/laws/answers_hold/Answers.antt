use Rattle.hc_ends.proofs.Answering.{answers_hold}
use Rattle.hc_ends.proofs.laws.answers_hold.Goals as goal

pub returns : goal.returns
returns c = answers_hold
