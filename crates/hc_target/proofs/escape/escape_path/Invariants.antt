use Rattle.hc_target.proofs.Common.{◌≡◌, ◌++◌, drop, escaped}
use Rattle.hc_target.proofs.escape.escape_path.Given as goal

abbrev pub invariant-loop-byte : goal.invariant-loop-byte
invariant-loop-byte l = l.out.items ++ escaped (drop l.byte-index l.text) ≡ escaped l.text
