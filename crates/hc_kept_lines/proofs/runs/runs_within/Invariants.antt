use Rattle.std.proofs.Common.{◌≡◌, ◌+◌, drop}
use Rattle.hc_kept_lines.specs.Runs.{within}
use Rattle.hc_kept_lines.proofs.runs.runs_within.Given as goal

abbrev pub invariant-loop-index : goal.invariant-loop-index
invariant-loop-index l = within l.runs l.fn.bytes ≡ l.index + within (drop l.index l.runs) l.left
