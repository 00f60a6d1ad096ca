use denote.Shadow.{shadow}
use denote.Text.{Utf8}
use Rattle.hc_kept_lines.proofs.Walking.{ToldTo}
use Rattle.hc_kept_lines.proofs.lines.KeptLines.lines.Given as goal

abbrev pub invariant-loop-run : goal.invariant-loop-run
invariant-loop-run l = shadow (Utf8 l.rest)
    × ToldTo l.kind l.fn.text l.run-items l.run-index l.number l.place l.rest l.lines.items
