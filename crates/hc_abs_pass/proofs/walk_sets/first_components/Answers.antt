use Rattle.std.proofs.lemmas.Result.{IfOk-weaker}
use Rattle.hc_abs_pass.proofs.Components.{component_is}
use Rattle.hc_rw_sets.proofs.Joins.{made_alike}
use Rattle.hc_abs_pass.proofs.walk_sets.first_components.Goals as goal

pub returns : goal.returns
returns c = IfOk-weaker _ _ _ (λ made. made_alike _ _ _ made component_is) c.cut_at.ensures
