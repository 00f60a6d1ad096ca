use Rattle.hc_pat_lang.proofs.Rests.{front_accepts}
use Rattle.hc_pat_lang.proofs.quotients.suffix_quotient.Goals as goal

pub returns : goal.returns
returns c = front_accepts c.args.set.now c.args.by.now _ (rw c.start-2.ensures.value at c.in_ok-made.ensures)
