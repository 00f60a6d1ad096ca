use Rattle.hc_match.proofs.Common.{◌<◌, ◌/◌, length, arith, get_or_read}
use Rattle.hc_match.proofs.PairTable.{number_set}
use Rattle.hc_match.proofs.failures.Failures.set_bit.Goals as goal

pub returns-then-number-len-clause-bits : goal.returns-then-number-len-clause-bits
returns-then-number-len-clause-bits c other is =
    let words = c.args.self.now.words.items in
    let within : c.args.number / 64 < length words = omega (arith, c.if-number-len.true, c.len.ensures) in
    number_set words c.args.number c.index_mut.result.now other within
    (get_or_read words (c.args.number / 64) c.index_mut.result.now within c.index_mut.ensures.value 0) is
