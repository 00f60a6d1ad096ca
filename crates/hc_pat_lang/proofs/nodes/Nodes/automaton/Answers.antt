use Rattle.hc_pat_lang.proofs.Taking.{reads_node}
use Rattle.hc_pat_lang.proofs.nodes.Nodes.automaton.Goals as goal

pub returns : goal.returns
returns c = reads_node _ _ _ c.in_ok-made.ensures
