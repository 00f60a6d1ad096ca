-- What a pattern matches, as the ordered list of its ways (PCRE, "pcrematching").
use Rattle.std.specs.Prelude.{ℕ, zero, suc, ◌+◌, ◌-◌, ◌==◌, Bool, false, List, [], ◌∷◌, ◌++◌}
use Rattle.std.specs.Prelude.{length, map, filter, Option, Some, None, if◌then◌else◌, nat_lt, slice_get}
use Rattle.std.specs.List.{flat_map}
use Rattle.hc_base.specs.declared.place.Span.{Span}
use Rattle.hc_pattern.specs.Bits.{has_byte}
use Rattle.hc_pattern.specs.Pattern.{Pattern, empty, byte, class, start, finish, cat, alt, group, repeat}

-- A way: the place that it ends at, and what is kept of the groups then.
pub record Way (Kept : Type 0) : Type 0 where
  pub end : ℕ
  pub held : Kept

-- The ways from a place, where something is kept already. The way to be taken comes first.
abbrev pub Ways : Type 0 → Type 0
Ways Kept = ℕ → Kept → List (Way Kept)

-- What is kept where a group spans something.
abbrev pub Keeping : Type 0 → Type 0
Keeping Kept = ℕ → Span → Kept → Kept

-- No way.
abbrev pub none : {Kept : Type 0} → Ways Kept
none at held = []

-- The place itself.
abbrev pub stop : {Kept : Type 0} → Ways Kept
stop at held = record { end = at; held = held } ∷ []

-- For each way of the first, in order, the ways of the second behind it.
abbrev pub behind : {Kept : Type 0} → Ways Kept → Ways Kept → Ways Kept
behind first second at held = flat_map (λ way. second way.end way.held) (first at held)

-- The ways of the first, and then those of the second.
abbrev pub either : {Kept : Type 0} → Ways Kept → Ways Kept → Ways Kept
either first second at held = first at held ++ second at held

-- The place itself, where the test is met.
abbrev pub stop_where : {Kept : Type 0} → (ℕ → Bool) → Ways Kept
stop_where test at held = if test at then stop at held else []

-- There is a byte at the place, and it meets the test.
abbrev pub meets : (ℕ → Bool) → Option ℕ → Bool
meets test None = false
meets test (Some b) = test b

-- One byte, where it meets the test.
abbrev pub step_where : {Kept : Type 0} → List ℕ → (ℕ → Bool) → Ways Kept
step_where text test at held = if meets test (slice_get text at) then stop (at + 1) held else []

-- What the group spans is kept, at the end of a way that began at a place.
abbrev pub closed : {Kept : Type 0} → Keeping Kept → ℕ → ℕ → Way Kept → Way Kept
closed keep number from way =
    record { end = way.end; held = keep number (record { start = from; end = way.end }) way.held }

-- Each way of the body, and what the group spans is kept.
abbrev pub grouped : {Kept : Type 0} → Keeping Kept → ℕ → Ways Kept → Ways Kept
grouped keep number body at held = map (closed keep number at) (body at held)

-- One more turn, or none: the turn first where the repeat is greedy.
abbrev pub preferred : {Kept : Type 0} → Bool → Ways Kept → Ways Kept
preferred greedy turn = if greedy then either turn stop else either stop turn

-- The ways that take at least one byte.
abbrev pub moving : {Kept : Type 0} → Ways Kept → Ways Kept
moving body at held = filter (λ way. nat_lt at way.end) (body at held)

-- Any number of turns, each of which takes at least one byte: so there are at most as many as there
-- are bytes (the number).
abbrev pub any_turns : {Kept : Type 0} → Bool → Ways Kept → ℕ → Ways Kept
any_turns greedy body zero = stop
any_turns greedy body (suc bytes) = preferred greedy (behind (moving body) (any_turns greedy body bytes))

-- At most so many turns.
abbrev pub turns_up_to : {Kept : Type 0} → Bool → Ways Kept → ℕ → Ways Kept
turns_up_to greedy body zero = stop
turns_up_to greedy body (suc most) = preferred greedy (behind body (turns_up_to greedy body most))

-- So many turns, and then more of them.
abbrev pub turns_then : {Kept : Type 0} → Ways Kept → ℕ → Ways Kept → Ways Kept
turns_then body zero more = more
turns_then body (suc least) more = behind body (turns_then body least more)

abbrev pub repeated : {Kept : Type 0} → ℕ → Ways Kept → ℕ → Option ℕ → Bool → Ways Kept
repeated bytes body least None greedy = turns_then body least (any_turns greedy body bytes)
repeated bytes body least (Some most) greedy =
    if nat_lt most least then none else turns_then body least (turns_up_to greedy body (most - least))

-- The ways of a pattern through a text, where so much is kept of the groups.
abbrev pub ways : {Kept : Type 0} → Keeping Kept → List ℕ → Pattern → Ways Kept
ways keep text empty = stop
ways keep text (byte b) = step_where text (λ c. c == b)
ways keep text (class set) = step_where text (has_byte set)
ways keep text start = stop_where (λ at. at == 0)
ways keep text finish = stop_where (λ at. at == length text)
ways keep text (cat first second) = behind (ways keep text first) (ways keep text second)
ways keep text (alt first second) = either (ways keep text first) (ways keep text second)
ways keep text (group number body) = grouped keep number (ways keep text body)
ways keep text (repeat body least most greedy) = repeated (length text) (ways keep text body) least most greedy
