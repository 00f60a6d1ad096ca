use Rattle.hc_dfa.proofs.Common.{◌≡◌, ℕ, ◌+◌, ◌-◌, ◌≤◌, ◌⊎◌, inl, inr, sym, subst, arith}
use Rattle.hc_dfa.proofs.Common.{states, IsSettled}
use Rattle.hc_dfa.proofs.leasts.bring_all_nearer.Goals as goal

pub loop-later-preserved-then-not-moved : goal.loop-later-preserved-then-not-moved
loop-later-preserved-then-not-moved c =
    let kept = c.bring_nearer-moved.ensures.settled c.if-not-moved.true in
    record {
      bounds = c.bring_nearer-moved.ensures.bounds;
      settled = λ none state below from.
          let cases : (state ≡ c.states.result - 1 - c.loop-later.later)
          ⊎ (states c.args.a.now ≤ state + c.loop-later.later) =
          (let e = c.states.ensures.value in grind arith) in
          elim cases [
            | inl e ↦ subst (λ (x : ℕ). IsSettled c.args.a.now c.bring_nearer-moved.new.distances.items x)
                (sym e) kept.1
            | inr old ↦ rw kept.0 (c.loop-later.invariant.settled none state below old)
          ];
    }
