use Rattle.hc_dfa.proofs.settling.settle.Given as goal

abbrev pub invariant-loop-pass : goal.invariant-loop-pass
invariant-loop-pass g l = g.P.Passes.is_sound l.passes l.state
