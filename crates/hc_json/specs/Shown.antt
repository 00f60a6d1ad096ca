-- A text of bytes as replies print it. Our own choice.
use Rattle.std.specs.Prelude.{ℕ, ◌+◌, ◌/◌, ◌%◌, ◌-◌, ◌==◌, nat_le, nat_lt, List, [], ◌∷◌}
use Rattle.std.specs.Prelude.{◌&&◌, if◌then◌else◌}
use Rattle.std.specs.List.{flat_map}
use Rattle.hc_base.specs.Bytes.{backslash, digit_zero, letter_a, letter_x, space, tilde}

abbrev pub hex_digit : ℕ → ℕ
hex_digit n = if nat_lt n 10 then digit_zero + n else letter_a + (n - 10)

-- 0x20 to 0x7E as it is but for the backslash, which is doubled; every other byte as a backslash,
-- `x` and two lower-case hexadecimal digits.
abbrev pub shown_byte : ℕ → List ℕ
shown_byte b =
    if b == backslash then backslash ∷ backslash ∷ []
    else (if nat_le space b && nat_le b tilde then b ∷ []
    else backslash ∷ letter_x ∷ hex_digit (b / 16) ∷ hex_digit (b % 16) ∷ [])

-- A text of bytes as it is printed.
abbrev pub shown : List ℕ → List ℕ
shown bytes = flat_map shown_byte bytes
