-- Escapes of bytes in a path: `%` and two hexadecimal digits (RFC 3986, section 2.1).
use Rattle.std.specs.Prelude.{ℕ, ◌/◌, ◌%◌, ◌==◌, List, [], ◌∷◌, Bool, false, not, ◌&&◌}
use Rattle.std.specs.Prelude.{◌||◌, if◌then◌else◌, codes}
use Rattle.std.specs.Char.{digit_char, digit_value, is_ascii_alphanumeric, is_ascii_hexdigit}
use Rattle.std.specs.List.{flat_map, list_any}
use Rattle.hc_base.specs.Bytes.{percent, slash}

-- Behind some `%` the text is of this kind.
abbrev pub some_percent : (List ℕ → Bool) → List ℕ → Bool
some_percent kind [] = false
some_percent kind (b ∷ bs) = ((b == percent) && kind bs) || some_percent kind bs

abbrev pub begins_with_digits : List ℕ → Bool
begins_with_digits [] = false
begins_with_digits (high ∷ []) = false
begins_with_digits (high ∷ low ∷ rest) = is_ascii_hexdigit high && is_ascii_hexdigit low

abbrev pub begins_with_slash_digits : List ℕ → Bool
begins_with_slash_digits [] = false
begins_with_slash_digits (high ∷ []) = false
begins_with_slash_digits (high ∷ low ∷ rest) =
    (digit_value high == slash / 16) && (digit_value low == slash % 16)

-- Some `%` begins no escape.
abbrev pub has_bad_escape : List ℕ → Bool
has_bad_escape path = some_percent (λ rest. not (begins_with_digits rest)) path

-- Some escape is that of a slash.
abbrev pub escapes_slash : List ℕ → Bool
escapes_slash path = some_percent begins_with_slash_digits path

-- The bytes that stand for themselves in an escaped path.
abbrev pub is_kept : ℕ → Bool
is_kept b = is_ascii_alphanumeric b || list_any (λ c. c == b) (codes "$-_.+!*'(),:;@&=/~")

-- Every other byte is escaped, with digits in lower case. Our own choice.
abbrev pub escaped_byte : ℕ → List ℕ
escaped_byte b = if is_kept b then b ∷ [] else percent ∷ digit_char (b / 16) ∷ digit_char (b % 16) ∷ []

abbrev pub escaped : List ℕ → List ℕ
escaped text = flat_map escaped_byte text
