use Rattle.hc_dfa.proofs.Common.{◌≡◌, ℕ, ◌<◌, ◌≤◌, slice_index, vec_len, class_of, class_count}
use Rattle.hc_dfa.proofs.classes.Classes.ends.Given as goal

abbrev pub invariant-loop-byte : goal.invariant-loop-byte
invariant-loop-byte l = record {
  len : vec_len l.ends ≡ class_count l.self;
  own : (class : ℕ) → class < class_count l.self → class_of l.self (slice_index l.ends.items class) ≡ class;
  last : (byte : ℕ) → byte < l.byte → byte ≤ slice_index l.ends.items (class_of l.self byte);
}
