-- What stands at a span of a text.
use Rattle.std.specs.Prelude.{ℕ, ◌-◌, List, [], take, drop, Option, Some, None}
use Rattle.hc_base.specs.declared.place.Span.{Span}

-- Where there is no span, nothing does.
abbrev pub spanned : List ℕ → Option Span → List ℕ
spanned text None = []
spanned text (Some span) = take (span.end - span.start) (drop span.start text)
