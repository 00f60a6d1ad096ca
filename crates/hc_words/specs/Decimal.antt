-- Decimal numbers in words.
use Rattle.std.specs.Prelude.{ℕ, ◌^◌, List, length, Bool, ◌&&◌, nat_lt, nat_le, Option, Some, None}
use Rattle.std.specs.Prelude.{if◌then◌else◌}
use Rattle.std.specs.Char.{is_ascii_digit}
use Rattle.std.specs.List.{list_all}
use Rattle.std.specs.Str.Parse.{digits_value}
use Rattle.hc_words.specs.declared.decimal.TheConstants.{MOST_DIGITS}

-- The number that decimal digits write, if it has 64 bits.
abbrev pub number_of : List ℕ → Option ℕ
number_of text =
    if nat_lt 0 (length text) && nat_lt (digits_value 10 text) (2 ^ 64) then Some (digits_value 10 text) else None

-- A text of 1 to 20 decimal digits and nothing else.
abbrev pub is_decimal : List ℕ → Bool
is_decimal text = nat_lt 0 (length text) && (nat_le (length text) MOST_DIGITS && list_all is_ascii_digit text)

abbrev pub within : ℕ → ℕ → ℕ → Bool
within low high n = nat_le low n && nat_le n high

-- The number that such a text writes, if it is from `low` to `high`.
abbrev pub decimal_within : ℕ → ℕ → List ℕ → Option ℕ
decimal_within low high text =
    if is_decimal text && within low high (digits_value 10 text) then Some (digits_value 10 text) else None
