-- Numbers in text, and rows of numbers that a separator divides.
use Rattle.std.specs.Prelude.{ℕ, ◌==◌, List, [], ◌∷◌, length, Bool, ◌&&◌, nat_lt, nat_le, Option, Some}
use Rattle.std.specs.Prelude.{None, if◌then◌else◌}
use Rattle.std.specs.Char.{is_digit}
use Rattle.std.specs.Int.Digits.{number_from_digits}
use Rattle.std.specs.List.{list_all, slice_split}
use Rattle.std.specs.Str.Parse.{digits_value}
use Rattle.hc_base.specs.Bytes.{colon, dot}
use Rattle.hc_addr.specs.declared.numbers.NumberRow.{NumberRow}
use Rattle.hc_addr.specs.declared.sizes.TheConstants.{BYTES, BYTE_DIGITS, BYTE_VALUES, DECIMAL, GROUPS, GROUP_DIGITS}
use Rattle.hc_addr.specs.declared.sizes.TheConstants.{GROUP_VALUES, HEXADECIMAL, HIGHEST_BYTE}

abbrev pub is_dot : ℕ → Bool
is_dot b = b == dot

abbrev pub is_colon : ℕ → Bool
is_colon b = b == colon

-- The text has a digit, at most so many, and nothing else.
abbrev pub is_number : ℕ → ℕ → List ℕ → Bool
is_number base most text = nat_lt 0 (length text) && nat_le (length text) most && list_all (λ b. is_digit b base) text

-- The number that the text writes in the base with at most so many digits.
abbrev pub number_of : ℕ → ℕ → List ℕ → Option ℕ
number_of base most text = if is_number base most text then Some (digits_value base text) else None

-- The text has a digit, and nothing else.
abbrev pub is_decimal : List ℕ → Bool
is_decimal text = nat_lt 0 (length text) && list_all (λ b. is_digit b DECIMAL) text

-- The number that the text writes in decimal digits, of which it may have any number.
abbrev pub decimal_of : List ℕ → Option ℕ
decimal_of text = if is_decimal text then Some (digits_value DECIMAL text) else None

-- The same number where it is at most this one.
abbrev pub at_most : ℕ → Option ℕ → Option ℕ
at_most highest None = None
at_most highest (Some n) = if nat_le n highest then Some n else None

-- A decimal number 0 to 255 of one to three digits.
abbrev pub byte_of : List ℕ → Option ℕ
byte_of text = at_most HIGHEST_BYTE (number_of DECIMAL BYTE_DIGITS text)

-- A group: one to four hexadecimal digits.
abbrev pub group_of : List ℕ → Option ℕ
group_of text = number_of HEXADECIMAL GROUP_DIGITS text

abbrev pub with_first : Option ℕ → Option (List ℕ) → Option (List ℕ)
with_first None ns = None
with_first (Some n) None = None
with_first (Some n) (Some ns) = Some (n ∷ ns)

-- The numbers that the pieces write, if each piece writes one.
abbrev pub numbers_of : (List ℕ → Option ℕ) → List (List ℕ) → Option (List ℕ)
numbers_of number [] = Some []
numbers_of number (piece ∷ pieces) = with_first (number piece) (numbers_of number pieces)

-- At most so many numbers in a row: how many they are, and the number whose digits they are.
abbrev pub row_of : ℕ → ℕ → Option (List ℕ) → Option NumberRow
row_of base most None = None
row_of base most (Some ns) = if nat_le (length ns) most
    then Some (record { value = number_from_digits base ns; count = length ns }) else None

-- One to four bytes with dots between them.
abbrev pub dotted_of : List ℕ → Option NumberRow
dotted_of text = row_of BYTE_VALUES BYTES (numbers_of byte_of (slice_split is_dot text))

-- One to eight groups with colons between them.
abbrev pub coloned_of : List ℕ → Option NumberRow
coloned_of text = row_of GROUP_VALUES GROUPS (numbers_of group_of (slice_split is_colon text))
