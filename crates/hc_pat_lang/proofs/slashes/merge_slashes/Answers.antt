use Rattle.hc_pat_lang.proofs.Merges.{merged_accepts}
use Rattle.hc_pat_lang.proofs.slashes.merge_slashes.Goals as goal

pub returns : goal.returns
returns c = merged_accepts c.args.set.now _ (rw c.start.ensures.value at c.in_ok-made.ensures)
