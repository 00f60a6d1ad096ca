use Rattle.hc_dfa.proofs.Filled.{filled_more}
use Rattle.hc_dfa.proofs.tabled.add_row.Goals as goal

pub loop-byte-preserved : goal.loop-byte-preserved
loop-byte-preserved g c =
    rw c.in_ok-push.ensures.items
    (filled_more (g.T.Transitions.count c.args.transitions.now) (g.T.Transitions.step c.args.transitions.now)
    c.args.bytes.now c.loop-byte.rows.items c.args.state c.loop-byte.byte-index c.next.result c.loop-byte.invariant
    c.loop-byte-test.true c.next.ensures.value c.next.ensures.within)
