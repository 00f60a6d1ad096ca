-- Reading a text for segments of dots, and for slashes beside each other.
use Rattle.std.specs.Prelude.{ℕ, ◌==◌, Bool, true, false, if◌then◌else◌}
use Rattle.hc_base.specs.Bytes.{dot}
use Rattle.hc_base.specs.Paths.{is_slash}
use Rattle.hc_abs_map.specs.declared.dots.Run.{Run}
use Rattle.hc_abs_map.specs.declared.dots.Run.TheVariants as run
use Rattle.hc_abs_map.specs.declared.dots.Segment.{Segment}
use Rattle.hc_abs_map.specs.declared.dots.Segment.TheVariants as segment

-- A byte behind dots; one more of them makes this.
abbrev pub behind_dots : Segment → ℕ → Segment
behind_dots more byte =
    if is_slash byte then segment.Dots else if byte == dot then more else segment.Other

abbrev pub next_segment : Segment → ℕ → Segment
next_segment segment.Empty byte =
    if is_slash byte then segment.Empty else if byte == dot then segment.One else segment.Other
next_segment segment.One byte = behind_dots segment.Two byte
next_segment segment.Two byte = behind_dots segment.Other byte
next_segment segment.Other byte = if is_slash byte then segment.Empty else segment.Other
next_segment segment.Dots byte = segment.Dots

abbrev pub ends_dotted : Segment → Bool
ends_dotted segment.Empty = false
ends_dotted segment.One = true
ends_dotted segment.Two = true
ends_dotted segment.Other = false
ends_dotted segment.Dots = true

abbrev pub next_run : Run → ℕ → Run
next_run run.Other byte = if is_slash byte then run.Slash else run.Other
next_run run.Slash byte = if is_slash byte then run.Double else run.Other
next_run run.Double byte = run.Double

abbrev pub ends_doubled : Run → Bool
ends_doubled run.Other = false
ends_doubled run.Slash = false
ends_doubled run.Double = true
