use Rattle.std.proofs.Common.{◌≡◌, ℕ, ◌<◌, length, slice_index}
use Rattle.hc_map.specs.Gathered.{changed}
use Rattle.hc_map.proofs.images.Letters.table.Given as goal

abbrev pub invariant-loop-byte : goal.invariant-loop-byte
invariant-loop-byte l = record {
  len : length l.table ≡ 256;
  each : (byte : ℕ) → byte < l.byte → slice_index l.table byte ≡ changed l.self byte;
}
