-- What is kept of the groups on a way: the last turn of each, or all turns.
use Rattle.std.specs.Prelude.{ℕ, ◌==◌, List, [], ◌∷◌, ◌++◌, Option, Some, None, if◌then◌else◌}
use Rattle.std.specs.Prelude.{length, zero, suc, ◌+◌}
use Rattle.std.specs.List.{fold}
use Rattle.std.specs.Option.{option_or, option_map}
use Rattle.hc_base.specs.declared.place.Span.{Span}
use Rattle.hc_pattern.specs.Pattern.{Pattern}
use Rattle.hc_ways.specs.Ways.{Keeping, Way, Ways, ways}

-- ---- the last turn of each group, as a match has it

-- What each group holds.
abbrev pub Held : Type 0
Held = ℕ → Option Span

abbrev pub nothing_held : Held
nothing_held number = None

abbrev pub with_group : Keeping Held
with_group number span held other = if other == number then Some span else held other

abbrev pub last_ways : List ℕ → Pattern → Ways Held
last_ways = ways with_group

-- ---- all turns of all groups

-- The turns of groups in the order in which they end: the group's number, and what it spans.
abbrev pub Turns : Type 0
Turns = List (ℕ × Span)

abbrev pub with_turn : Keeping Turns
with_turn number span turns = turns ++ (number, span) ∷ []

abbrev pub all_ways : List ℕ → Pattern → Ways Turns
all_ways = ways with_turn

-- What the groups hold after turns: each the last of its own.
abbrev pub held_after : Held → Turns → Held
held_after = fold (λ held turn. with_group turn.0 turn.1 held)

abbrev pub last_of_turns : Way Turns → Way Held
last_of_turns way = record { end = way.end; held = held_after nothing_held way.held }

-- ---- the match

abbrev pub first_of : {Kept : Type 0} → List (Way Kept) → Option (Way Kept)
first_of [] = None
first_of (way ∷ ways) = Some way

-- What the groups hold at the end of a way. Group 0 is what the whole way spans.
abbrev pub held_by : ℕ → Way Held → Held
held_by from way = with_group 0 (record { start = from; end = way.end }) way.held

-- The match that begins at a place: its first way.
abbrev pub match_at : List ℕ → Pattern → ℕ → Option Held
match_at text pattern from = option_map (held_by from) (first_of (last_ways text pattern from nothing_held))

-- The match at the least of so many places, from one on, that has one.
abbrev pub match_among : List ℕ → Pattern → ℕ → ℕ → Option Held
match_among text pattern zero from = None
match_among text pattern (suc count) from =
    option_or (match_at text pattern from) (match_among text pattern count (from + 1))

-- The match: the first way at the least place that has one.
abbrev pub first_match : List ℕ → Pattern → Option Held
first_match text pattern = match_among text pattern (length text + 1) 0
