use Rattle.hc_dfa.proofs.Common.{◌≡◌, ℕ, Some, slice_index, ap, ◌∙◌, arith, common_steps}
use Rattle.hc_dfa.proofs.Merged.{IsPaired, distances_tell}
use Rattle.hc_dfa.proofs.Nearest.{each_more}
use Rattle.hc_dfa.proofs.reduced.by_distances.Goals as goal

pub loop-state-preserved : goal.loop-state-preserved
loop-state-preserved c =
    let met = c.in_ok-number_of.ensures in
    let here : c.index.result.now ≡ slice_index c.in_ok-to_final.to_final.items c.loop-state.state =
    grind (arith, common_steps, c.index.ensures) in
    record {
      len = omega (arith, c.in_ok-push.ensures.len);
      each = rw c.in_ok-push.ensures.items
          (each_more (IsPaired c.in_ok-to_final.to_final.items c.number_of.new.keys.keys) c.loop-state.blocks.items
          c.loop-state.state c.in_ok-number_of.field-0 (omega arith)
          (λ s below. let old = c.loop-state.invariant.each s below in (old.0, met.extends _ _ old.1)) (
            c.unwrap_or.result,
            met.stored ∙ ap Some (ap (λ (x : ℕ). (x, c.unwrap_or.result)) here),
          ));
    }

pub returns-clause-finals : goal.returns-clause-finals
returns-clause-finals c =
    distances_tell c.args.a.now c.in_ok-to_final.to_final.items c.loop-state.blocks.items c.loop-state.pairs.keys
    c.in_ok-to_final.ensures.bounds
    (λ s below. c.loop-state.invariant.each s (omega arith))
