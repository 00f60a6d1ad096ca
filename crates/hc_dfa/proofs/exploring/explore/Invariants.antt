use Rattle.hc_dfa.proofs.exploring.explore.Given as goal

abbrev pub invariant-loop-number : goal.invariant-loop-number
invariant-loop-number g l = g.W.Walk.has_followed l.walk l.gathered l.keys.keys l.number
