-- A number of an address, read digit by digit.
use Rattle.std.specs.Prelude.{ℕ, ◌+◌, ◌*◌, ◌/◌, ◌%◌, Bool, true, false, ◌&&◌, nat_lt, nat_le}
use Rattle.std.specs.Prelude.{if◌then◌else◌}
use Rattle.std.specs.Char.{digit_value, is_digit}
use Rattle.hc_addr.specs.Networks.{same_under}
use Rattle.hc_net_sets.specs.Sought.{fits_at, number_at}
use Rattle.hc_net_sets.specs.declared.digits.Digits.{Digits}
use Rattle.hc_net_sets.specs.declared.digits.Digits.TheVariants.{Byte, Group, Wrong}
use Rattle.hc_net_sets.specs.declared.digits.Fits.{Fits}
use Rattle.hc_net_sets.specs.declared.sought.Family.{Family}
use Rattle.hc_net_sets.specs.declared.sought.Family.TheVariants.{Four, Six}
use Rattle.hc_net_sets.specs.declared.sought.Sought.{Sought}

-- The digit may stand where the number is divided by this power of 16.
abbrev pub digit_fits : ℕ → ℕ → ℕ → ℕ → Bool
digit_fits mask own power digit = same_under (mask / power % 16) digit (own / power % 16)

-- Zeros may stand before the last digits.
abbrev pub none_before : ℕ → ℕ → ℕ → Bool
none_before mask own power = same_under (mask / power) 0 (own / power)

abbrev pub with_byte_digit : ℕ → ℕ → ℕ → Digits
with_byte_digit count value digit =
    if nat_lt count 3 && nat_le (value * 10 + digit) 255 then Byte (count + 1) (value * 10 + digit) else Wrong

abbrev pub with_group_digit : ℕ → ℕ → Fits → ℕ → Fits
with_group_digit mask own fits digit = record {
  none = fits.one && digit_fits mask own 1 digit;
  one = fits.two && digit_fits mask own 16 digit;
  two = fits.three && digit_fits mask own 256 digit;
  three = fits.four && digit_fits mask own 4096 digit;
  four = false;
}

-- No digit was read of a group.
abbrev pub begin_group : ℕ → ℕ → Fits
begin_group mask own = record {
  none = false;
  one = none_before mask own 16;
  two = none_before mask own 256;
  three = none_before mask own 4096;
  four = true;
}

abbrev pub begin_in : Family → ℕ → ℕ → Digits
begin_in Four mask own = Byte 0 0
begin_in Six mask own = Group (begin_group mask own)

-- No digit was read of the number at the place.
abbrev pub begin_digits : Sought → ℕ → Digits
begin_digits sought place =
    begin_in sought.family (number_at sought.family place sought.mask) (number_at sought.family place sought.own)

-- One byte more.
abbrev pub next_digits : Sought → ℕ → Digits → ℕ → Digits
next_digits sought place (Byte count value) byte =
    if is_digit byte 10 then with_byte_digit count value (digit_value byte) else Wrong
next_digits sought place (Group fits) byte =
    if is_digit byte 16
    then Group (with_group_digit (number_at sought.family place sought.mask)
    (number_at sought.family place sought.own) fits (digit_value byte)) else Wrong
next_digits sought place Wrong byte = Wrong

-- The digits write a number that may stand at the place.
abbrev pub ends : Sought → ℕ → Digits → Bool
ends sought place (Byte count value) = nat_lt 0 count && fits_at sought place value
ends sought place (Group fits) = fits.none
ends sought place Wrong = false
