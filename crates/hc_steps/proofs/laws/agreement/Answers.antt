use Rattle.hc_steps.proofs.Running.{agreement}
use Rattle.hc_steps.proofs.laws.agreement.Goals as goal

pub returns : goal.returns
returns g c = λ s v w h. agreement s v w h
