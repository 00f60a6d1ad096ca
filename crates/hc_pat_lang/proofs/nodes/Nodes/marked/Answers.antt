use Rattle.hc_pat_lang.proofs.Taking.{reads_marked}
use Rattle.hc_pat_lang.proofs.nodes.Nodes.marked.Goals as goal

pub returns : goal.returns
returns c = reads_marked _ c.args.set.now _ _ (rw c.start.ensures.value at c.in_ok-made.ensures)
