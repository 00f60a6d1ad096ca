-- Escapes and named sets (PCRE, "pcrepattern": "Backslash", "POSIX character classes").
use Rattle.std.specs.Prelude.{ℕ, ◌+◌, ◌*◌, ◌==◌, not, ◌&&◌, List, [], ◌∷◌, length}
use Rattle.std.specs.Prelude.{if◌then◌else◌, nat_eq, codes}
use Rattle.std.specs.List.{starts_with}
use Rattle.std.specs.Char.{digit_value, is_ascii_alphanumeric, is_ascii_hexdigit}
use Rattle.hc_base.specs.Bytes.{at_sign, backslash, backspace, brace_open, bracket_open, capital_a, capital_d}
use Rattle.hc_base.specs.Bytes.{capital_f, capital_s, capital_w, capital_z, caret, colon, cr, dash, delete, digit_nine}
use Rattle.hc_base.specs.Bytes.{digit_zero, exclamation, grave, last_byte, letter_a, letter_d, letter_f, letter_s}
use Rattle.hc_base.specs.Bytes.{letter_w, letter_x, letter_z, nul, shift_out, slash, space, tab, tilde, underscore}
use Rattle.hc_base.specs.Bytes.{unit_separator}
use Rattle.hc_base.specs.declared.fault.AtByte.{AtByte}
use Rattle.hc_pattern.specs.Refusals.{unsupported, wrong_syntax}

-- What a byte, an escape or a named set stands for: a set is given by its ranges. A hyphen in a class
-- may make a range.
pub data Member : Type 0 where
  one : ℕ → Member
  many : List (ℕ × ℕ) → Member
  hyphen : Member
  refused : AtByte → Member

-- A member, and how many bytes it is written in.
pub record Written : Type 0 where
  pub member : Member
  pub length : ℕ

abbrev pub digits : List (ℕ × ℕ)
digits = (digit_zero, digit_nine) ∷ []

-- Digits, capital letters, the underscore and small letters.
abbrev pub words : List (ℕ × ℕ)
words =
    (digit_zero, digit_nine) ∷ (capital_a, capital_z) ∷ (underscore, underscore) ∷ (letter_a, letter_z) ∷ []

-- Tab, LF, VT, FF, CR and space.
abbrev pub spaces : List (ℕ × ℕ)
spaces = (tab, cr) ∷ (space, space) ∷ []

abbrev pub no_digits : List (ℕ × ℕ)
no_digits = (nul, slash) ∷ (colon, last_byte) ∷ []

abbrev pub no_words : List (ℕ × ℕ)
no_words =
    (nul, slash) ∷ (colon, at_sign) ∷ (bracket_open, caret) ∷ (grave, grave) ∷ (brace_open, last_byte) ∷ []

abbrev pub no_spaces : List (ℕ × ℕ)
no_spaces = (nul, backspace) ∷ (shift_out, unit_separator) ∷ (exclamation, last_byte) ∷ []

-- `\xHH`, by what stands behind the `x`.
abbrev pub hex_escape : ℕ → List ℕ → Written
hex_escape at [] = record { member = refused (unsupported at); length = 2 }
hex_escape at (high ∷ []) = record { member = refused (unsupported at); length = 2 }
hex_escape at (high ∷ low ∷ rest) =
    if is_ascii_hexdigit high && is_ascii_hexdigit low
    then record { member = one (16 * digit_value high + digit_value low); length = 4 }
    else record { member = refused (unsupported at); length = 2 }

-- A backslash and a letter or digit other than `x`.
abbrev pub letter_escape : ℕ → ℕ → Member
letter_escape at b =
    if b == letter_d then many digits
    else if b == letter_w then many words
    else if b == letter_s then many spaces
    else if b == capital_d then many no_digits
    else if b == capital_w then many no_words
    else if b == capital_s then many no_spaces
    else refused (unsupported at)

-- An escape, by what stands behind its backslash.
abbrev pub escape : ℕ → List ℕ → Written
escape at [] = record { member = refused (wrong_syntax at); length = 1 }
escape at (b ∷ rest) =
    if not (is_ascii_alphanumeric b) then record { member = one b; length = 2 }
    else if b == letter_x then hex_escape at rest
    else record { member = letter_escape at b; length = 2 }

-- The named sets, by what stands behind their `[:`.
abbrev pub named_sets : List (List ℕ × List (ℕ × ℕ))
named_sets =
    (codes "alpha:]", (capital_a, capital_z) ∷ (letter_a, letter_z) ∷ []) ∷
    (codes "digit:]", digits) ∷
    (codes "alnum:]", (digit_zero, digit_nine) ∷ (capital_a, capital_z) ∷ (letter_a, letter_z) ∷ []) ∷
    (codes "upper:]", (capital_a, capital_z) ∷ []) ∷
    (codes "lower:]", (letter_a, letter_z) ∷ []) ∷
    (codes "space:]", spaces) ∷
    (codes "blank:]", (tab, tab) ∷ (space, space) ∷ []) ∷ (
      codes "punct:]",
      (exclamation, slash) ∷ (colon, at_sign) ∷ (bracket_open, grave) ∷ (brace_open, tilde)
          ∷ [],
    ) ∷
    (codes "print:]", (space, tilde) ∷ []) ∷
    (codes "graph:]", (exclamation, tilde) ∷ []) ∷
    (codes "cntrl:]", (nul, unit_separator) ∷ (delete, delete) ∷ []) ∷
    (codes "xdigit:]", (digit_zero, digit_nine) ∷ (capital_a, capital_f) ∷ (letter_a, letter_f) ∷ []) ∷
    (codes "word:]", words) ∷
    []

-- A named set by what stands behind its `[:`; without a name of these, the `[` is a byte.
abbrev pub named_set : List ℕ → List (List ℕ × List (ℕ × ℕ)) → Written
named_set text [] = record { member = one bracket_open; length = 1 }
named_set text (set ∷ sets) =
    if starts_with nat_eq text set.0 then record { member = many set.1; length = length set.0 + 2 }
    else named_set text sets

abbrev pub bracket : ℕ → List ℕ → Written
bracket at [] = record { member = one bracket_open; length = 1 }
bracket at (b ∷ []) = record { member = one bracket_open; length = 1 }
bracket at (b ∷ c ∷ rest) =
    if not (b == colon) then record { member = one bracket_open; length = 1 }
    else if c == caret then record { member = refused (unsupported at); length = 1 }
    else named_set (c ∷ rest) named_sets

-- A member of a class, by its first byte and what stands behind that.
abbrev pub member_at : ℕ → ℕ → List ℕ → Written
member_at at b rest =
    if b == backslash then escape at rest
    else if b == bracket_open then bracket at rest
    else if b == dash then record { member = hyphen; length = 1 }
    else record { member = one b; length = 1 }
