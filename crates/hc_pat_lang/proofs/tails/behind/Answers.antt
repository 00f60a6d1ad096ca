use Rattle.hc_pat_lang.proofs.Cutting.{tails_accepted}
use Rattle.hc_pat_lang.proofs.tails.behind.Goals as goal

pub returns : goal.returns
returns c = tails_accepted c.args.set.now c.args.count _ (rw c.start.ensures.value at c.in_ok-made.ensures)
