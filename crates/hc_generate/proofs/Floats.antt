-- No step has a float.
use Rattle.std.proofs.Common.{◌≡◌, false, refl}
use Rattle.serde_json.specs.Written.{has_float}
use Rattle.hc_generate.specs.Lines.{step_data}
use Rattle.hc_generate.specs.declared.step.Step.{Step}
use Rattle.hc_generate.specs.declared.step.Step.TheVariants.{Main}

pub step_without : (step : Step) → has_float (step_data step) ≡ false
step_without Main = refl
step_without step = refl
