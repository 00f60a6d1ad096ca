use Rattle.hc_lines.proofs.Common.{length, Utf8, shadow}
use Rattle.hc_lines.proofs.Reading.{IsRead}
use Rattle.hc_lines.proofs.logical.read_lines.Given as goal

abbrev pub invariant-runs : goal.invariant-runs
invariant-runs l = shadow (Utf8 l.rest) × IsRead l.file l.fn.text l.rest l.number l.place l.lines.items

abbrev pub decreases-runs : goal.decreases-runs
decreases-runs l = length l.rest
