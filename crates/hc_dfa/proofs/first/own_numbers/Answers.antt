use Rattle.hc_dfa.proofs.Common.{arith}
use Rattle.hc_dfa.proofs.Alone.{own_more}
use Rattle.hc_dfa.proofs.first.own_numbers.Goals as goal

pub loop-byte-preserved : goal.loop-byte-preserved
loop-byte-preserved c =
    rw c.from.ensures
    (own_more c.args.text.now c.loop-byte.numbers.items c.loop-byte.byte-index c.loop-byte.invariant
    (omega (arith, c.type_inv.text c.loop-byte.byte-index)))
