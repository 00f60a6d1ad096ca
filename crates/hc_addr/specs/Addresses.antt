-- Addresses in text.
use Rattle.std.specs.Prelude.{ℕ, ◌==◌, ◌+◌, ◌-◌, ◌*◌, ◌^◌, List, [], ◌∷◌, take, drop, Bool}
use Rattle.std.specs.Prelude.{false, ◌&&◌, nat_lt, Option, Some, None, if◌then◌else◌, option_map}
use Rattle.std.specs.List.{list_any}
use Rattle.hc_addr.specs.declared.addr.Addr.{Addr}
use Rattle.hc_addr.specs.declared.addr.Addr.TheVariants.{V4, V6}
use Rattle.hc_addr.specs.declared.numbers.NumberRow.{NumberRow}
use Rattle.hc_addr.specs.declared.sizes.TheConstants.{BYTES, GROUPS, GROUP_VALUES}
use Rattle.hc_addr.specs.Numbers.{is_colon, dotted_of, coloned_of}

-- The number of a row that has exactly so many numbers.
abbrev pub whole : ℕ → Option NumberRow → Option ℕ
whole count None = None
whole count (Some row) = if row.count == count then Some row.value else None

-- IPv4: four bytes with dots between them.
abbrev pub v4_of : List ℕ → Option ℕ
v4_of text = whole BYTES (dotted_of text)

abbrev pub begins_with_gap : List ℕ → Bool
begins_with_gap [] = false
begins_with_gap (b ∷ []) = false
begins_with_gap (b ∷ c ∷ bs) = is_colon b && is_colon c

-- The place of the first `::`.
abbrev pub gap_of : List ℕ → Option ℕ
gap_of [] = None
gap_of (b ∷ bs) = if begins_with_gap (b ∷ bs) then Some 0 else option_map (λ at. at + 1) (gap_of bs)

-- The groups on a side of `::`, where there may be none.
abbrev pub side_of : List ℕ → Option NumberRow
side_of [] = Some (record { value = 0; count = 0 })
side_of (b ∷ bs) = coloned_of (b ∷ bs)

-- The groups before `::` stand at the address's front and those after it at its end, and at least
-- one group of zero is between them.
abbrev pub around : Option NumberRow → Option NumberRow → Option ℕ
around None after = None
around (Some before) None = None
around (Some before) (Some after) =
    if nat_lt (before.count + after.count) GROUPS
    then Some (before.value * GROUP_VALUES ^ (GROUPS - before.count) + after.value) else None

abbrev pub v6_at : List ℕ → Option ℕ → Option ℕ
v6_at text None = whole GROUPS (coloned_of text)
v6_at text (Some at) = around (side_of (take at text)) (side_of (drop (at + 2) text))

-- IPv6: eight groups with colons between them, or fewer with one `::`.
abbrev pub v6_of : List ℕ → Option ℕ
v6_of text = v6_at text (gap_of text)

abbrev pub has_colon : List ℕ → Bool
has_colon text = list_any is_colon text

-- A text with a colon is an IPv6 address, each other an IPv4 address.
abbrev pub addr_of : List ℕ → Option Addr
addr_of text = if has_colon text then option_map V6 (v6_of text) else option_map V4 (v4_of text)
