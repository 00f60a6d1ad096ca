use Rattle.std.proofs.Common.{arith, sym, ◌∙◌}
use Rattle.hc_kept_lines.proofs.Touching.{none_down, open_line-at}
use Rattle.hc_kept_lines.proofs.places.open_start.Goals as goal

pub open-preserved : goal.open-preserved
open-preserved c = (
  omega (arith, c.open.invariant.0),
  none_down c.args.text.now c.open.end (sym c.is_ended.ensures ∙ c.open-test.true) c.open.invariant.1,
)

pub returns-clause-open : goal.returns-clause-open
returns-clause-open c = open_line-at c.args.text.now c.open.end c.open.invariant.0
    (sym c.is_ended.ensures ∙ c.open-test.false) c.open.invariant.1
