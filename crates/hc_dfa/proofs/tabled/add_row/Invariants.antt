use Rattle.hc_dfa.proofs.Common.{◌+◌, ◌*◌, length}
use Rattle.hc_dfa.specs.Tabled.{AreFilled}
use Rattle.hc_dfa.proofs.tabled.add_row.Given as goal

abbrev pub invariant-loop-byte : goal.invariant-loop-byte
invariant-loop-byte g l = AreFilled (g.T.Transitions.count l.transitions) (g.T.Transitions.step l.transitions) l.bytes
    l.rows.items (l.state * length l.bytes + l.byte-index)
