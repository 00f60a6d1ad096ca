-- What is still to be matched, as ways.
use Rattle.std.specs.Prelude.{◌≡◌, ◌-◌, ℕ, Bool, false, List, [], length, Option, None, Some}
use Rattle.std.specs.Prelude.{if◌then◌else◌, nat_lt, option_map}
use Rattle.hc_pattern.specs.Pattern.{pattern_of}
use Rattle.hc_pattern.specs.declared.pat.Pat.{Pat}
use Rattle.hc_ways.specs.Ways.{Way, Ways, behind, either, repeated, stop}
use Rattle.hc_ways.specs.Kept.{Held, first_of, last_ways, with_group}
use Rattle.hc_match.specs.Single.{NoWay}
use Rattle.hc_match.specs.Settings.{captured, held_over}
use Rattle.hc_match.specs.declared.frame.Frame.{Frame, End, Then', Close', Moved', Turns'}
use Rattle.hc_match.specs.declared.search.Searched.{Searched}
use Rattle.hc_match.specs.declared.search.Searched.TheVariants.{Match, NoMatch}
use Rattle.hc_match.specs.declared.straight.Straight.{Straight}
use Rattle.hc_match.specs.declared.frame.Turn.{Turn}
use Rattle.hc_match.specs.declared.frame.Turns.{Turns}
use Rattle.hc_match.specs.declared.frame.Tried.{Tried}
use Rattle.hc_match.specs.declared.frame.Tried.TheVariants.{Matched, Failed, GaveUp}

-- The ways of turns of a pattern.
abbrev pub turns_ways : List ℕ → Pat → Turns → Ways Held
turns_ways text body turns = repeated (length text) (last_ways text (pattern_of body)) turns.least turns.most
    turns.greedy

-- The turns behind one.
abbrev pub behind_one : Turns → Turns
behind_one turns =
    record { least = turns.least - 1; most = option_map (λ most. most - 1) turns.most; greedy = turns.greedy }

-- The ways of what is still to be matched.
abbrev pub frame_ways : List ℕ → Frame → Ways Held
frame_ways text End = stop
frame_ways text (Then' pat p next) = behind (last_ways text (pattern_of pat.now)) (frame_ways text next)
frame_ways text (Close' group start p next) =
    λ at held. frame_ways text next at (with_group group (record { start = start; end = at }) held)
frame_ways text (Moved' start p next) = λ at held. if nat_lt start at then frame_ways text next at held else []
frame_ways text (Turns' body turns p next) = behind (turns_ways text body.now turns) (frame_ways text next)

-- The ways of a pattern and what is behind it.
abbrev pub both_ways : List ℕ → Pat → Frame → Ways Held
both_ways text pat next = behind (last_ways text (pattern_of pat)) (frame_ways text next)

-- Where the pattern has no way, there is none for what is still to be matched.
abbrev pub IsLead : List ℕ → Pat → Frame → Type 0
IsLead text lead frame = (at : ℕ) → NoWay text at (pattern_of lead) → (held : Held)
    → frame_ways text frame at held ≡ []

-- The ways of a turn and what is behind it.
abbrev pub turn_ways : List ℕ → Turn → Ways Held
turn_ways text turn = behind (last_ways text (pattern_of turn.body.now)) (frame_ways text turn.rest.now)

-- What came of trying ways: the first of them, or that there is none, whatever is held before. While
-- nothing was found no group is set.
abbrev pub Says : Tried → Straight → (Held → List (Way Held)) → Type 0
Says Matched search found =
    (held : Held)
    → first_of (found held) ≡ Some (record { end = search.end; held = held_over held search.settings.items })
Says Failed search found = ((held : Held) → found held ≡ []) × (search.settings.items ≡ [])
Says GaveUp search found = Unit {0}

-- A turn more, and what is behind it, before or behind what is behind no turn.
abbrev pub preferring : Bool → Ways Held → Ways Held → Ways Held
preferring greedy turn next = if greedy then either turn next else either next turn

-- There is a greatest number, and it is below the other.
abbrev pub less_than : Option ℕ → ℕ → Bool
less_than None least = false
less_than (Some most) least = nat_lt most least

-- What came of a search: what the groups of the match hold, or that there is none.
abbrev pub Tells : Searched → Option Held → Type 0
Tells (Match captures) wanted = Some (captured captures) ≡ wanted
Tells NoMatch wanted = None ≡ wanted
Tells Searched.GaveUp wanted = Unit {0}
