-- Patterns of one node, and what patterns begin with.
use Rattle.std.specs.Prelude.{◌≡◌, ℕ, ◌<◌, ◌==◌, Bool, true, false, List, [], slice_get}
use Rattle.hc_pattern.specs.Bits.{has_byte}
use Rattle.hc_pattern.specs.Pattern.{Pattern, empty, byte, class, start, finish, cat, alt, group, repeat}
use Rattle.hc_ways.specs.Kept.{Held, last_ways}
use Rattle.hc_ways.specs.Ways.{meets}
use Rattle.hc_match.specs.declared.start.First.{First}
use Rattle.hc_match.specs.declared.start.First.TheVariants.{Byte, Class}

-- It has no parts, and so one way at most.
abbrev pub is_single : Pattern → Bool
is_single empty = true
is_single (byte b) = true
is_single (class set) = true
is_single start = true
is_single finish = true
is_single (cat first second) = false
is_single (alt first second) = false
is_single (group number body) = false
is_single (repeat body least most greedy) = false

-- It has no way from another place than the first.
abbrev pub BeginsAtStart : Pattern → Type 0
BeginsAtStart pattern = (text : List ℕ) (from : ℕ) (held : Held) → 0 < from → last_ways text pattern from held
    ≡ []

-- It is this byte, or one of these.
abbrev pub is_first : First → ℕ → Bool
is_first (Byte b) c = c == b
is_first (Class set) c = has_byte set c

-- It has no way from a place where none of these bytes stands.
abbrev pub BeginsWith : First → Pattern → Type 0
BeginsWith first pattern = (text : List ℕ) (from : ℕ) (held : Held)
    → meets (is_first first) (slice_get text from) ≡ false → last_ways text pattern from held ≡ []

-- It has no way from this place.
abbrev pub NoWay : List ℕ → ℕ → Pattern → Type 0
NoWay text at pattern = (held : Held) → last_ways text pattern at held ≡ []
