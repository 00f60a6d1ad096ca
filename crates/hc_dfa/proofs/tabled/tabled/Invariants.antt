use Rattle.hc_dfa.proofs.Common.{◌≡◌, ℕ, ◌*◌, ◌<◌, length, slice_index_or, vec_len, false}
use Rattle.hc_dfa.specs.Tabled.{AreFilled}
use Rattle.hc_dfa.proofs.tabled.tabled.Given as goal

abbrev pub invariant-loop-state : goal.invariant-loop-state
invariant-loop-state g l = record {
  rows : AreFilled (g.T.Transitions.count l.transitions) (g.T.Transitions.step l.transitions) l.bytes l.rows.items
      (l.state * length l.bytes);
  len : vec_len l.finals ≡ l.state;
  marks : (state : ℕ) → state < l.state → slice_index_or l.finals.items state false
      ≡ g.T.Transitions.mark l.transitions state;
}
