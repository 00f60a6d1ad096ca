use Rattle.hc_abs_force.proofs.Nesting.{all_nested}
use Rattle.hc_abs_force.proofs.laws.sections_are_nested.Goals as goal

pub returns : goal.returns
returns c = all_nested
