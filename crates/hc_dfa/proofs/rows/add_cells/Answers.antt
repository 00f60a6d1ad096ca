use Rattle.hc_dfa.proofs.Common.{arith, slice_index}
use Rattle.hc_dfa.proofs.Cells.{explored_more}
use Rattle.hc_dfa.proofs.rows.add_cells.Goals as goal

pub loop-byte-preserved : goal.loop-byte-preserved
loop-byte-preserved g c =
    let walk = c.args.walk.now in
    let row = c.requires.row in
    let at = c.loop-byte.invariant.extends row.0 c.args.key.now row.1 in
    let met = c.in_ok-near.ensures in
    record {
      scratch = c.next.ensures.scratch;
      explored = rw c.in_ok-push.ensures.items
          (explored_more _ (g.R.Rows.is_key walk.rows.now)
          (λ from k to. g.R.Rows.leads walk.rows.now from (slice_index walk.bytes.now k) to) _ _ c.args.key.now _
          _ row.0
          c.loop-byte.byte-index _ c.loop-byte.invariant.explored met at
          (let w = row.2 in let l = c.loop-byte.invariant.len in omega arith) c.loop-byte-test.true
          c.in_ok-to.ensures.leads c.in_ok-to.ensures.key);
      len = omega (arith, c.in_ok-push.ensures.len);
      extends = λ i key is. met.extends i key (c.loop-byte.invariant.extends i key is);
    }
