use Rattle.hc_match.proofs.PairTable.{pair_added}
use Rattle.hc_match.proofs.failures.Failures.add.Goals as goal

pub returns-in-Some : goal.returns-in-Some
returns-in-Some c =
    pair_added c.args.self.now c.set_bit.new.self c.args.step c.args.at c.in-Some.number c.set_bit.ensures.width
    c.in-Some.ensures.number c.in-Some.ensures.within c.set_bit.ensures.bits
