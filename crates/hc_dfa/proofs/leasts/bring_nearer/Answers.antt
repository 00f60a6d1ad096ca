use Rattle.hc_dfa.proofs.Common.{◌+◌, ◌≤◌, slice_index, arith, common_steps}
use Rattle.hc_dfa.proofs.Nearest.{nearer}
use Rattle.hc_dfa.proofs.leasts.bring_nearer.Goals as goal
use Rattle.hc_dfa.proofs.leasts.bring_nearer.Goals.{else-own-lt-NONE-via-then-own-lt-NONE+else-own-nearest}
use Rattle.hc_dfa.proofs.leasts.bring_nearer.Goals.{else-own-lt-NONE-via-else-own-lt-NONE}

pub returns-clause-bounds : goal.returns-clause-bounds
returns-clause-bounds c =
    let far : c.nearest-nearest.result + 1 ≤ slice_index c.args.distances.now.items c.args.state =
    elim c.else-own-lt-NONE.branch [
      | else-own-lt-NONE-via-then-own-lt-NONE+else-own-nearest w ↦ grind (
        arith,
        common_steps,
        c.index-own.ensures,
        w.if-own-nearest,
      )
      | else-own-lt-NONE-via-else-own-lt-NONE w ↦ grind (arith, common_steps, c.index-own.ensures, w.if-own-lt-NONE)
    ] in
    nearer c.args.a.now c.args.distances.now.items c.args.state c.nearest-nearest.result c.requires.bounds
    c.requires.state (rw c.deref.ensures.value at c.nearest-nearest.ensures) (omega arith) far
