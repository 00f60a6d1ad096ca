-- An address of a network, read byte by byte.
use Rattle.std.specs.Prelude.{ℕ, zero, suc, ◌<◌, ◌≤◌, ◌==◌, Bool, true, false, ◌&&◌}
use Rattle.std.specs.Prelude.{if◌then◌else◌}
use Rattle.hc_base.specs.Bytes.{colon}
use Rattle.hc_net_sets.specs.Digits.{begin_digits, ends, next_digits}
use Rattle.hc_net_sets.specs.Sought.{separator_of, zeros_fit}
use Rattle.hc_net_sets.specs.declared.digits.Digits.{Digits}
use Rattle.hc_net_sets.specs.declared.marks.Mark.{Mark}
use Rattle.hc_net_sets.specs.declared.marks.Mark.TheVariants.{Start, Colon, Front, After, Back, End, Other}
use Rattle.hc_net_sets.specs.declared.sought.Sought.{Sought}
use Rattle.hc_net_sets.specs.declared.sought.TheConstants.{GROUPS}

-- The places of the mark are places.
abbrev pub IsMark : Mark → Type 0
IsMark Start = Unit {0}
IsMark Colon = Unit {0}
IsMark (Front place digits) = place < GROUPS
IsMark (After left) = left ≤ GROUPS
IsMark (Back place digits) = place < GROUPS
IsMark End = Unit {0}
IsMark Other = Unit {0}

-- The number at the next place begins, where so many are left.
abbrev pub behind_number : Sought → ℕ → Mark
behind_number sought zero = Other
behind_number sought (suc place) = Back place (begin_digits sought place)

-- What follows `::` begins.
abbrev pub back_mark : Sought → ℕ → Mark
back_mark sought zero = End
back_mark sought (suc place) = Back place (begin_digits sought place)

-- What follows `::` begins, where so many numbers were left in front of it.
abbrev pub behind_gap : Sought → ℕ → Mark
behind_gap sought left = if zeros_fit sought left then back_mark sought sought.behind else Other

-- The first byte of a number before `::`, where so many numbers are left.
abbrev pub front_number : Sought → ℕ → ℕ → Mark
front_number sought zero byte = Other
front_number sought (suc place) byte = Front place (next_digits sought place (begin_digits sought place) byte)

-- One byte more behind these digits of a number before `::`.
abbrev pub front_more : Sought → ℕ → Digits → ℕ → Mark
front_more sought place digits byte =
    if byte == colon then (if ends sought place digits then After place else Other)
    else Front place (next_digits sought place digits byte)

-- One byte more behind these digits of a number that no `::` follows.
abbrev pub back_more : Sought → ℕ → Digits → ℕ → Mark
back_more sought place digits byte =
    if byte == separator_of sought.family then (if ends sought place digits then behind_number sought place else Other)
    else Back place (next_digits sought place digits byte)

abbrev pub next_mark : Sought → Mark → ℕ → Mark
next_mark sought Start byte = if byte == colon then Colon else front_number sought GROUPS byte
next_mark sought Colon byte = if byte == colon then behind_gap sought GROUPS else Other
next_mark sought (Front place digits) byte = front_more sought place digits byte
next_mark sought (After left) byte = if byte == colon then behind_gap sought left else front_number sought left byte
next_mark sought (Back place digits) byte = back_more sought place digits byte
next_mark sought End byte = Other
next_mark sought Other byte = Other

abbrev pub mark_ends : Sought → Mark → Bool
mark_ends sought Start = false
mark_ends sought Colon = false
mark_ends sought (Front place digits) = false
mark_ends sought (After left) = false
mark_ends sought (Back place digits) = ends sought place digits && (place == 0)
mark_ends sought End = true
mark_ends sought Other = false

abbrev pub IsKey : Sought → Mark → Type 0
IsKey sought mark = (sought.behind < GROUPS) × IsMark mark
