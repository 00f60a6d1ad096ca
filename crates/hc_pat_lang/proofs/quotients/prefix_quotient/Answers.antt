use Rattle.hc_pat_lang.proofs.Rests.{rest_accepts}
use Rattle.hc_pat_lang.proofs.quotients.prefix_quotient.Goals as goal

pub returns : goal.returns
returns c = rest_accepts c.args.set.now c.args.by.now _
    (rw (c.start.ensures.value, c.start-2.ensures.value) at c.in_ok-made.ensures)
