use Rattle.hc_dfa.proofs.Common.{◌<◌, ◌≡◌, [], None, Some, arith, append-nil, common_steps, slice_index}
use Rattle.hc_dfa.proofs.Common.{accepts}
use Rattle.hc_dfa.proofs.Sole.{behind_one, not_only, only_by, only_end}
use Rattle.hc_dfa.proofs.only.only_member.Goals as goal

pub onward_from-requires-clause-ends : goal.onward_from-requires-clause-ends
onward_from-requires-clause-ends c =
    (c.classes.result.now, c.classes.ensures.tells, rw c.deref.ensures.value c.in_ok-ends.ensures)

pub onward_from-requires-2-clause-ends : goal.onward_from-requires-2-clause-ends
onward_from-requires-2-clause-ends c =
    (c.classes.result.now, c.classes.ensures.tells, rw c.deref-2.ensures.value c.in_ok-ends.ensures)

pub returns-in_default : goal.returns-in_default
unfolding accepts
returns-in_default c =
    c.bytes.invariant.only None
    (not_only c.args.a.now c.start-state.ensures.table _ c.in_ok-distances.ensures c.bytes.state
    c.onward_from.result c.bytes.invariant.state (rw c.deref-in-bytes.ensures.value at c.onward_from.ensures)
    (λ e. grind (arith, common_steps)) (λ byte e. absurd (c.in_default.not-By byte e)))

pub bytes-preserved : goal.bytes-preserved
bytes-preserved c =
    let far : 0 < slice_index c.in_ok-distances.distances.items c.bytes.state = grind (arith, common_steps) in
    record {
      state = c.next_state-state.ensures.within;
      only = λ found is. rw (c.in_ok-push.ensures.items, behind_one)
          (c.bytes.invariant.only _
          (only_by c.args.a.now c.start-state.ensures.table _ c.in_ok-distances.ensures c.bytes.state c.in-By.byte
          c.bytes.invariant.state far (rw c.deref-in-bytes.ensures.value at c.in-By.ensures) found
          (rw c.next_state-state.ensures.value at is)));
    }

pub returns-in-Nowhere : goal.returns-in-Nowhere
unfolding accepts
returns-in-Nowhere c =
    let onward = rw c.deref-3.ensures.value at c.in-Nowhere.ensures in
    let zero : slice_index c.in_ok-distances.distances.items c.bytes.state ≡ 0 = grind (arith, common_steps) in
    rw (c.from.ensures, ← append-nil c.bytes.bytes.items)
    (c.bytes.invariant.only (Some [])
    (only_end c.args.a.now c.start-state.ensures.table _ c.in_ok-distances.ensures c.bytes.state
    c.bytes.invariant.state zero onward))

pub returns : goal.returns
unfolding accepts
returns c =
    let zero : slice_index c.in_ok-distances.distances.items c.bytes.state ≡ 0 = grind (arith, common_steps) in
    c.bytes.invariant.only None
    (not_only c.args.a.now c.start-state.ensures.table _ c.in_ok-distances.ensures c.bytes.state
    c.onward_from-2.result c.bytes.invariant.state (rw c.deref-3.ensures.value at c.onward_from-2.ensures)
    (λ e. absurd (c.in_default-onward_from.not-Nowhere e)) (λ byte e. zero))
