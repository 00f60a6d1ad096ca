use Rattle.hc_abs_pass.specs.Walks.{is_empty}
use Rattle.hc_abs_start.proofs.starting.with_nothing.Goals as goal

pub returns : goal.returns
returns c = c.in_ok-made.ensures is_empty c.in_ok-nothing.ensures
