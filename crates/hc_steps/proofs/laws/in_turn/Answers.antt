use Rattle.hc_steps.proofs.Running.{in_turn}
use Rattle.hc_steps.proofs.laws.in_turn.Goals as goal

pub returns : goal.returns
returns g c = λ s f w. in_turn s f w
