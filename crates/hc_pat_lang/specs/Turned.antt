-- The ways of a pattern through a text in which the bytes of one turn of a group are marked.
use Rattle.std.specs.Prelude.{ℕ, zero, suc, ◌+◌, ◌-◌, ◌==◌, ◌||◌, Bool, false, List, [], length}
use Rattle.std.specs.Prelude.{Option, None, Some, if◌then◌else◌, nat_lt, slice_get}
use Rattle.hc_pattern.specs.Bits.{has_byte}
use Rattle.hc_pattern.specs.Pattern.{Pattern, empty, byte, class, start, finish, cat, alt, group, repeat}
use Rattle.hc_pattern.specs.declared.set.ByteSet.{ByteSet}
use Rattle.hc_ways.specs.Ways.{Ways, any_turns, behind, either, grouped, meets, moving, none, repeated, stop}
use Rattle.hc_ways.specs.Ways.{stop_where, turns_then, turns_up_to}
use Rattle.hc_ways.specs.Kept.{Turns, with_turn}
use Rattle.hc_ways.specs.Taking.{takes_a_byte}
use Rattle.hc_pat_lang.specs.declared.build.Times.{Times}
use Rattle.hc_pat_lang.specs.declared.gates.GroupPart.{GroupPart}
use Rattle.hc_pat_lang.specs.declared.gates.GroupPart.TheVariants.{Outside, Inside, Without}
use Rattle.hc_pat_lang.specs.declared.nodes.Node.{Node}
use Rattle.hc_pat_lang.specs.declared.nodes.Node.TheVariants.{Step, Marked}

-- The bytes have the numbers below 256, and marked bytes those below 512.
abbrev pub plain_byte : ℕ → Option ℕ
plain_byte letter = if nat_lt letter 256 then Some letter else None

abbrev pub marked_byte : ℕ → Option ℕ
marked_byte letter = if nat_lt letter 256 then None else plain_byte (letter - 256)

-- The byte that a part of the ways sees in a letter.
abbrev pub seen_in : GroupPart → ℕ → Option ℕ
seen_in Outside letter = plain_byte letter
seen_in Inside letter = marked_byte letter
seen_in (Without number) letter = plain_byte letter

abbrev pub seen_at : GroupPart → Option ℕ → Option ℕ
seen_at part None = None
seen_at part (Some letter) = seen_in part letter

abbrev pub seen : GroupPart → List ℕ → ℕ → Option ℕ
seen part text at = seen_at part (slice_get text at)

-- One byte, where one is seen and meets the test.
abbrev pub step_by : (ℕ → Option ℕ) → (ℕ → Bool) → Ways Turns
step_by see test at held = if meets test (see at) then stop (at + 1) held else []

abbrev pub leaves_out : GroupPart → ℕ → Bool
leaves_out Outside number = false
leaves_out Inside number = false
leaves_out (Without other) number = other == number

-- The ways of the part.
abbrev pub part_ways : GroupPart → List ℕ → Pattern → Ways Turns
part_ways part text empty = stop
part_ways part text (byte b) = step_by (seen part text) (λ c. c == b)
part_ways part text (class set) = step_by (seen part text) (has_byte set)
part_ways part text start = stop_where (λ at. at == 0)
part_ways part text finish = stop_where (λ at. at == length text)
part_ways part text (cat first second) = behind (part_ways part text first) (part_ways part text second)
part_ways part text (alt first second) = either (part_ways part text first) (part_ways part text second)
part_ways part text (group number body) = if leaves_out part number then none
    else grouped with_turn number (part_ways part text body)
part_ways part text (repeat body least most greedy) =
    repeated (length text) (part_ways part text body) least most greedy

abbrev pub times_of : Pattern → Times → Pattern
times_of body times = repeat body times.least times.most times.greedy

-- The node for a byte that the part sees.
abbrev pub step_node : GroupPart → ByteSet → ℕ → Node
step_node Outside set to = Step set to
step_node Inside set to = Marked set to
step_node (Without number) set to = Step set to

-- ---- the ways with a chosen turn

abbrev pub has_turn : ℕ → Pattern → Bool
has_turn number empty = false
has_turn number (byte b) = false
has_turn number (class set) = false
has_turn number start = false
has_turn number finish = false
has_turn number (cat first second) = has_turn number first || has_turn number second
has_turn number (alt first second) = has_turn number first || has_turn number second
has_turn number (group own body) = (own == number) || has_turn number body
has_turn number (repeat body least most greedy) = has_turn number body

-- The chosen turn is in the first, or in the second behind it.
abbrev pub chosen_behind : Ways Turns → Ways Turns → Ways Turns → Ways Turns → Ways Turns
chosen_behind first first_chosen second second_chosen = either (behind first_chosen second) (behind first second_chosen)

-- One of so many turns is chosen, or one of the further turns behind them.
abbrev pub chosen_then : Ways Turns → Ways Turns → ℕ → Ways Turns → Ways Turns → Ways Turns
chosen_then body chosen zero more more_chosen = more_chosen
chosen_then body chosen (suc least) more more_chosen =
    chosen_behind body chosen (turns_then body least more) (chosen_then body chosen least more more_chosen)

abbrev pub chosen_up_to : Bool → Ways Turns → Ways Turns → ℕ → Ways Turns
chosen_up_to greedy body chosen zero = none
chosen_up_to greedy body chosen (suc most) =
    chosen_behind body chosen (turns_up_to greedy body most) (chosen_up_to greedy body chosen most)

-- Any number of turns, the chosen one, and any number of turns.
abbrev pub chosen_any : Bool → Ways Turns → Ways Turns → ℕ → Ways Turns
chosen_any greedy body chosen bytes =
    behind (any_turns greedy body bytes) (behind (moving chosen) (any_turns greedy body bytes))

-- Where each turn moves, the last that has to be is one of any number.
abbrev pub chosen_repeated : Bool → ℕ → Ways Turns → Ways Turns → ℕ → Option ℕ → Bool → Ways Turns
chosen_repeated moves bytes body chosen least None greedy =
    if moves
    then chosen_then body chosen (least - 1) (behind body (any_turns greedy body bytes))
    (chosen_any greedy body chosen bytes)
    else chosen_then body chosen least (any_turns greedy body bytes) (chosen_any greedy body chosen bytes)
chosen_repeated moves bytes body chosen least (Some most) greedy =
    if nat_lt most least
    then none
    else chosen_then body chosen least (turns_up_to greedy body (most - least))
    (chosen_up_to greedy body chosen (most - least))

-- The ways in which the marked bytes are those of one turn of the group.
abbrev pub chosen_ways : ℕ → List ℕ → Pattern → Ways Turns
chosen_ways number text empty = none
chosen_ways number text (byte b) = none
chosen_ways number text (class set) = none
chosen_ways number text start = none
chosen_ways number text finish = none
chosen_ways number text (cat first second) =
    chosen_behind (part_ways Outside text first) (chosen_ways number text first) (part_ways Outside text second)
    (chosen_ways number text second)
chosen_ways number text (alt first second) = either (chosen_ways number text first) (chosen_ways number text second)
chosen_ways number text (group own body) =
    if own == number
    then either (part_ways Inside text body) (chosen_ways number text body)
    else chosen_ways number text body
chosen_ways number text (repeat body least most greedy) =
    chosen_repeated (takes_a_byte body) (length text) (part_ways Outside text body) (chosen_ways number text body) least
    most greedy

-- Turns of a body, of which one is chosen.
abbrev pub then_chosen : ℕ → ℕ → List ℕ → Pattern → Ways Turns → Ways Turns → Ways Turns
then_chosen number count text body = chosen_then (part_ways Outside text body) (chosen_ways number text body) count

abbrev pub up_to_chosen : Bool → ℕ → ℕ → List ℕ → Pattern → Ways Turns
up_to_chosen greedy number count text body =
    chosen_up_to greedy (part_ways Outside text body) (chosen_ways number text body) count

abbrev pub any_chosen : Bool → ℕ → List ℕ → Pattern → Ways Turns
any_chosen greedy number text body =
    chosen_any greedy (part_ways Outside text body) (chosen_ways number text body) (length text)

-- The ways in which the marked bytes are what the group holds: the whole way, or one of its turns, or none where it has
-- no turn.
abbrev pub group_ways : ℕ → List ℕ → Pattern → Ways Turns
group_ways number text pattern =
    if number == 0
    then part_ways Inside text pattern
    else either (chosen_ways number text pattern) (part_ways (Without number) text pattern)
