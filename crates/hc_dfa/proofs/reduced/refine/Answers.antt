use Rattle.hc_dfa.proofs.Common.{arith}
use Rattle.hc_dfa.proofs.Merged.{AreNumbered, refines}
use Rattle.hc_dfa.proofs.Nearest.{each_more}
use Rattle.hc_dfa.proofs.reduced.refine.Goals as goal

pub returns : goal.returns
returns c = refines c.args.a.now c.args.bytes.now c.args.blocks.now c.loop-state.finer.items
    c.loop-state.signatures.keys c.requires.bytes (omega arith) (omega arith)
    (λ s below. c.loop-state.invariant.each s (omega arith))

pub loop-state-preserved : goal.loop-state-preserved
loop-state-preserved c =
    let met = c.in_ok-number_of.ensures in
    record {
      len = omega (arith, c.in_ok-push.ensures.len);
      few = omega (arith, met.len);
      each = rw c.in_ok-push.ensures.items
          (each_more (AreNumbered c.args.a.now c.args.bytes.now c.args.blocks.now c.number_of.new.keys.keys)
          c.loop-state.finer.items c.loop-state.state c.in_ok-number_of.field-0 (omega arith)
          (λ s below. let old = c.loop-state.invariant.each s below in (old.0, met.extends _ _ old.1, old.2))
          (_, met.stored, c.in_ok-signature.ensures));
    }
