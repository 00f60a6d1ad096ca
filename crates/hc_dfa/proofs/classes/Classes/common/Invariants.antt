use Rattle.hc_dfa.proofs.Common.{◌≡◌, ℕ, ◌+◌, ◌*◌, ◌<◌, slice_index, vec_len, class_of}
use Rattle.hc_dfa.proofs.classes.Classes.common.Given as goal

abbrev pub invariant-loop-byte : goal.invariant-loop-byte
invariant-loop-byte l = record {
  len : vec_len l.numbers ≡ l.byte;
  each : (byte : ℕ) → byte < l.byte → slice_index l.numbers.items byte ≡ 256 * class_of l.a byte
      + class_of l.b byte;
  small : (byte : ℕ) → byte < l.byte → class_of l.b byte < 256;
}
