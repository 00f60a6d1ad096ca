use Rattle.std.proofs.Common.{◌≡◌, ℕ, ◌<◌, slice_index}
use Rattle.hc_dfa.proofs.classes.class_like.Given as goal

abbrev pub invariant-loop-class : goal.invariant-loop-class
invariant-loop-class l = (class : ℕ) → class < l.class → slice_index l.numbers (slice_index l.firsts class)
    ≡ l.number → ⊥
