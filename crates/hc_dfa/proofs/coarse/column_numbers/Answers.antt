use Rattle.hc_dfa.proofs.Common.{arith}
use Rattle.hc_dfa.proofs.Columns.{IsColumnOf, columns_made}
use Rattle.hc_dfa.proofs.Nearest.{each_more}
use Rattle.hc_dfa.proofs.coarse.column_numbers.Goals as goal

pub loop-byte-preserved : goal.loop-byte-preserved
loop-byte-preserved c =
    let met = c.in_ok-near.ensures in
    record {
      len = omega (arith, c.in_ok-push.ensures.len);
      each = rw c.in_ok-push.ensures.items
          (each_more (IsColumnOf c.args.a.now c.args.bytes.now c.number_near.new.keys.keys)
          c.loop-byte.numbers.items c.loop-byte.byte-index c.in_ok-near.near (omega arith)
          (λ k below. let old = c.loop-byte.invariant.each k below in (old.0, met.extends _ _ old.1, old.2))
          (_, met.stored, c.in_ok-column.ensures));
    }

pub returns : goal.returns
returns c = columns_made c.args.a.now c.args.bytes.now c.loop-byte.numbers.items c.loop-byte.columns.keys (omega arith)
    (λ k below. c.loop-byte.invariant.each k (omega arith))
