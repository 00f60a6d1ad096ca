use Rattle.hc_dfa.proofs.Common.{arith}
use Rattle.hc_dfa.proofs.Sole.{ends_have}
use Rattle.hc_dfa.proofs.classes.Classes.ends.Goals as goal

pub returns : goal.returns
returns c =
    let is = c.loop-byte.invariant in
    rw (c.in_ok-extend_from_slice.ensures.items, c.firsts-firsts.ensures.value)
    (ends_have c.args.self.now c.loop-byte.ends.items c.firsts-firsts.ensures.classes (omega arith) is.own
    (λ byte below. is.last byte (omega arith)))
