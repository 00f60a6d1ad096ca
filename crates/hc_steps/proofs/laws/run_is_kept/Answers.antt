use Rattle.hc_steps.proofs.Keeping.{run_is_kept}
use Rattle.hc_steps.proofs.laws.run_is_kept.Goals as goal

pub returns : goal.returns
returns g c = λ cap r. run_is_kept cap r
