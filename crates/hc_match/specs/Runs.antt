-- Repeats of one byte: the bytes in a row that fit, and what is behind each number of them.
use Rattle.std.specs.Prelude.{ℕ, zero, suc, ◌+◌, ◌-◌, Bool, List, Option, None, Some, length}
use Rattle.std.specs.Prelude.{if◌then◌else◌, nat_lt, slice_get}
use Rattle.hc_ways.specs.Ways.{Way, Ways, meets, repeated, step_where}
use Rattle.hc_ways.specs.Kept.{Held}
use Rattle.hc_match.specs.Frames.{preferring}
use Rattle.hc_match.specs.Single.{is_first}
use Rattle.hc_match.specs.declared.start.First.{First}
use Rattle.hc_match.specs.declared.frame.Turns.{Turns}

-- How many bytes from a place on meet a test, one behind the other: of so many at most.
abbrev pub run_length : List ℕ → (ℕ → Bool) → ℕ → ℕ → ℕ
run_length text test at zero = 0
run_length text test at (suc most) = if meets test (slice_get text at) then suc (run_length text test (at + 1) most)
    else 0

-- What is behind so many bytes or fewer: behind more of them first where the repeat is greedy.
abbrev pub ends : Bool → Ways Held → ℕ → ℕ → Held → List (Way Held)
ends greedy next at zero held = next at held
ends greedy next at (suc more) held = preferring greedy (λ at held. ends greedy next (at + 1) more held) next at held

-- The end that is tried first, and where the other ends begin.
abbrev pub first_end : Bool → ℕ → ℕ → ℕ
first_end greedy first more = if greedy then first + more else first

abbrev pub other_first : Bool → ℕ → ℕ
other_first greedy first = if greedy then first else first + 1

-- The ways of a repeat of these bytes.
abbrev pub run_ways : List ℕ → First → Turns → Bool → Ways Held
run_ways text set turns greedy = repeated (length text) (step_where text (is_first set)) turns.least turns.most greedy

-- How many turns there are at most behind those that have to be: none where these are too many
-- already. A text of so many bytes has no more turns than bytes.
abbrev pub further_turns : ℕ → ℕ → Option ℕ → Option ℕ
further_turns bytes least None = Some bytes
further_turns bytes least (Some most) = if nat_lt most least then None else Some (most - least)
