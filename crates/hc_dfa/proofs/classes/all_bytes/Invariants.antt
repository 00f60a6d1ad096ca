use Rattle.std.proofs.Common.{◌≡◌, ℕ, ◌<◌, slice_index, vec_len}
use Rattle.hc_dfa.proofs.classes.all_bytes.Given as goal

abbrev pub invariant-loop-byte : goal.invariant-loop-byte
invariant-loop-byte l =
    record {
      len : vec_len l.bytes ≡ l.byte;
      each : (byte : ℕ) → byte < l.byte → slice_index l.bytes.items byte
          ≡ byte;
    }
