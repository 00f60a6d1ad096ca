use Rattle.hc_pat_lang.proofs.nodes.Nodes.build_if.Goals as goal

pub returns : goal.returns
returns c = rw c.if-not-needed.false c.in_ok-entries.ensures
