use Rattle.hc_dfa.proofs.Common.{◌≡◌, arith}
use Rattle.hc_dfa.proofs.Filled.{filled_all}
use Rattle.hc_dfa.proofs.tabled.tabled.Goals as goal

pub returns : goal.returns
returns g c =
    let is = c.loop-state.invariant in
    let whole : c.loop-state.state ≡ c.args.count = omega arith in
    rw c.made.ensures
    (filled_all c.args.count (g.T.Transitions.step c.args.transitions.now) (g.T.Transitions.mark c.args.transitions.now)
    c.args.classes c.loop-state.rows.items c.loop-state.finals.items c.firsts-bytes.ensures.classes (omega arith)
    (rw (← c.requires.count, c.firsts-bytes.ensures.value, whole) at is.rows)
    (λ state below. is.marks state (omega arith)) c.requires.tells)
