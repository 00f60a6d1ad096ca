use Rattle.hc_dfa.proofs.Common.{arith}
use Rattle.hc_dfa.proofs.Sole.{asked_all}
use Rattle.hc_dfa.proofs.only.onward_from.Goals as goal

pub returns : goal.returns
returns c =
    let is = c.requires.ends in
    asked_all c.args.a.now c.args.distances.now c.args.state c.args.ends.now c.requires.state
    (λ k. omega (arith, c.type_inv.ends k)) is.0
    is.1 is.2 c.loop-byte.byte-index c.loop-byte.onward c.loop-byte-test.false c.loop-byte.invariant
