use Rattle.std.proofs.Common.{subst}
use Rattle.hc_dfa.specs.Built.{Accepts}
use Rattle.hc_dfa.specs.Singles.{single}
use Rattle.hc_abs_view.proofs.compare.text_sides.Goals as goal

pub returns : goal.returns
returns c = (
  c.in_ok-set.set,
  subst (λ text. Accepts c.in_ok-set.set (single text)) c.as_bytes.ensures c.in_ok-set.ensures,
  c.in_ok-sides.ensures,
)
