use Rattle.std.proofs.Common.{◌≡◌, length, drop}
use Rattle.std.specs.List.{slice_split}
use Rattle.hc_base.specs.Lines.{is_lf}
use Rattle.hc_map.specs.Maps.{value_in}
use Rattle.hc_map.proofs.Rows.{value_among}
use Rattle.hc_map.proofs.lines.value_in.Given as goal

-- what the lines that are left give is what all give
abbrev pub invariant-loop-line : goal.invariant-loop-line
invariant-loop-line l = value_among l.key (drop (length l.yielded) (slice_split is_lf l.text)) ≡ value_in l.key l.text
