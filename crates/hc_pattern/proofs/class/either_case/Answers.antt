use Rattle.std.proofs.Common.{rules}
use Rattle.hc_pattern.proofs.Common.{has_byte, true}
use Rattle.hc_pattern.specs.Classes.{folded}
use Rattle.hc_pattern.proofs.class.either_case.Goals as goal

pub returns : goal.returns
returns c = c.set_where.ensures (folded true (has_byte c.args.set)) (λ byte met within answered. search rules)
