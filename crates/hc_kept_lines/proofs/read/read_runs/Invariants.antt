use Rattle.std.proofs.Common.{length}
use denote.Shadow.{shadow}
use denote.Text.{Utf8}
use Rattle.hc_kept_lines.proofs.Cutting.{ReadTo}
use Rattle.hc_kept_lines.proofs.read.read_runs.Given as goal

abbrev pub invariant-lines : goal.invariant-lines
invariant-lines g l = shadow (Utf8 l.rest) × ReadTo l.fn.text l.rest l.runs.items l.fn.bytes l.bytes

abbrev pub decreases-lines : goal.decreases-lines
decreases-lines g l = length l.rest
