use Rattle.hc_dfa.proofs.Common.{[], ◌∷◌, arith, append_assoc, append-nil, common_steps}
use Rattle.hc_dfa.proofs.Nearest.{none_near, walk_least}
use Rattle.hc_dfa.proofs.leasts.least.Goals as goal

pub returns-then-index : goal.returns-then-index
returns-then-index c =
    none_near c.args.a.now c.start-state.ensures.table _ c.in_ok-distances.ensures (grind (arith, common_steps))

pub bytes-preserved : goal.bytes-preserved
bytes-preserved c =
    let nearer = rw c.deref.ensures.value at c.first_step-byte.ensures.nearer in
    record {
      state = c.next_state-state.ensures.within;
      some = (let f = c.bytes.invariant.some in rw c.next_state-state.ensures.value (omega (arith, nearer)));
      walk = λ rest more. rw (c.in_ok-push.ensures.items, append_assoc)
          (c.bytes.invariant.walk (c.first_step-byte.result ∷ rest) (
            c.first_step-byte.type_inv,
            nearer,
            rw c.deref.ensures.value at c.first_step-byte.ensures.first,
            rw c.next_state-state.ensures.value at more,
          ));
    }

pub returns : goal.returns
returns c =
    rw c.from.ensures
    (walk_least c.args.a.now c.start-state.ensures.table _ c.in_ok-distances.ensures c.bytes.bytes.items
    (rw append-nil at (c.bytes.invariant.walk [] (grind (arith, common_steps)))))
