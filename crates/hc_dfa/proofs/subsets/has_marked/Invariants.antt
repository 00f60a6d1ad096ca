use Rattle.hc_dfa.proofs.Common.{◌<◌, ℕ, slice_index, Has}
use Rattle.hc_dfa.proofs.subsets.has_marked.Given as goal

abbrev pub invariant-loop-state : goal.invariant-loop-state
invariant-loop-state l = (k : ℕ) → k < l.state-index → Has l.marks (slice_index l.set k) → ⊥
