use Rattle.hc_dfa.proofs.Common.{arith}
use Rattle.hc_dfa.proofs.classes.Classes.common.Goals as goal

pub returns-clause-first : goal.returns-clause-first
returns-clause-first c b d bb db same =
    let e = (rw c.deref.ensures.value at c.in_ok-classes.ensures.fine) b d bb db same in
    let is = c.loop-byte.invariant in
    omega (
      arith,
      e,
      is.each b (omega arith),
      is.each d (omega arith),
      is.small b (omega arith),
      is.small d (omega arith),
    )

pub returns-clause-second : goal.returns-clause-second
returns-clause-second c b d bb db same =
    let e = (rw c.deref.ensures.value at c.in_ok-classes.ensures.fine) b d bb db same in
    let is = c.loop-byte.invariant in
    omega (
      arith,
      e,
      is.each b (omega arith),
      is.each d (omega arith),
      is.small b (omega arith),
      is.small d (omega arith),
    )
