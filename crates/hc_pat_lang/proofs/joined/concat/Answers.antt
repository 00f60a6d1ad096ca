use Rattle.hc_pat_lang.proofs.Joining.{two_joined}
use Rattle.hc_pat_lang.proofs.joined.concat.Goals as goal

pub returns : goal.returns
returns c = two_joined _ _ _ (rw (c.in_ok-clone.ensures.cases, c.in_ok-clone-2.ensures.cases) at c.in_ok-made.ensures)
