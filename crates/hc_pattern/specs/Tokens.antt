-- The signs of a pattern (PCRE, "pcrepattern").
use Rattle.std.specs.Prelude.{ℕ, zero, suc, ◌+◌, ◌-◌, ◌*◌, ◌==◌, Bool, true, false, not, ◌&&◌}
use Rattle.std.specs.Prelude.{List, [], ◌∷◌, length, take, drop, Option, Some, None, if◌then◌else◌, nat_lt}
use Rattle.std.specs.List.{fold, prefix_len}
use Rattle.std.specs.Char.{eq_ignore_ascii_case, is_ascii_alphabetic, is_ascii_digit}
use Rattle.hc_base.specs.Bytes.{backslash, bar, begins_with, brace_close, brace_open, bracket_open, caret, colon, comma}
use Rattle.hc_base.specs.Bytes.{digit_zero, dollar, dot, parenthesis_close, parenthesis_open, plus, question, star}
use Rattle.hc_base.specs.declared.fault.AtByte.{AtByte}
use Rattle.hc_pattern.specs.Bits.{set_where}
use Rattle.hc_pattern.specs.Classes.{Class, class_from, class_test, is_in_ranges, parts_of, parts_refusal}
use Rattle.hc_pattern.specs.Members.{Member, one, many, hyphen, refused, escape}
use Rattle.hc_pattern.specs.Pattern.{Pattern, byte, class, start, finish}
use Rattle.hc_pattern.specs.Refusals.{unsupported, wrong_syntax}

-- A quantifier: so many turns at least, and at most where there is a second number. `is_sign` where it
-- is `*`, `+` or `?`, `is_plus` where it is `+`.
pub record Count : Type 0 where
  pub least : ℕ
  pub most : Option ℕ
  pub greedy : Bool
  pub is_sign : Bool
  pub is_plus : Bool

pub data Token : Type 0 where
  -- a byte, an escape, a class, `.`, `^` or `$`
  item : Pattern → Token
  -- `(`, with the number of its group, or `(?:`
  opens : Option ℕ → Token
  closes : Token
  bars : Token
  counts : Count → Token
  -- a class without its `]`
  unclosed : Token
  broken : AtByte → Token

-- A token, and how many bytes it is written in.
pub record Sign : Type 0 where
  pub token : Token
  pub length : ℕ

-- A token at its place.
pub record Placed : Type 0 where
  pub at : ℕ
  pub token : Token

-- Without case, a letter is each of its cases.
abbrev pub byte_item : Bool → ℕ → Token
byte_item nocase b = if nocase && is_ascii_alphabetic b then item (class (set_where (eq_ignore_ascii_case b)))
    else item (byte b)

abbrev pub member_item : Bool → Member → Token
member_item nocase (one b) = byte_item nocase b
member_item nocase (many ranges) = item (class (set_where (λ b. is_in_ranges b ranges)))
member_item nocase hyphen = unclosed
member_item nocase (refused refusal) = broken refusal

abbrev pub escape_sign : Bool → ℕ → List ℕ → Sign
escape_sign nocase at rest =
    record { token = member_item nocase (escape at rest).member; length = (escape at rest).length }

abbrev pub unless_refused : Option AtByte → Token → Token
unless_refused None token = token
unless_refused (Some refusal) token = broken refusal

-- A class, by what stands behind its `[` and its `^`.
abbrev pub class_token : Bool → Bool → Class → Token
class_token nocase complement c =
    unless_refused (parts_refusal (parts_of c.members))
    (if c.closed then item (class (set_where (class_test nocase complement (parts_of c.members)))) else unclosed)

abbrev pub class_sign : Bool → ℕ → List ℕ → Sign
class_sign nocase at [] = record { token = unclosed; length = 1 }
class_sign nocase at (b ∷ rest) =
    if b == caret then record {
      token = class_token nocase true (class_from 0 true (at + 2) rest);
      length = (class_from 0 true (at + 2) rest).length + 2;
    }
    else record {
      token = class_token nocase false (class_from 0 true (at + 1) (b ∷ rest));
      length = (class_from 0 true (at + 1) (b ∷ rest)).length + 1;
    }

-- A `(`, by what stands behind it and how many groups began before.
abbrev pub open_sign : ℕ → ℕ → List ℕ → Sign
open_sign groups at [] = record { token = opens (Some (groups + 1)); length = 1 }
open_sign groups at (b ∷ []) =
    if b == question then record { token = broken (unsupported at); length = 1 }
    else record { token = opens (Some (groups + 1)); length = 1 }
open_sign groups at (b ∷ c ∷ rest) =
    if not (b == question) then record { token = opens (Some (groups + 1)); length = 1 }
    else if c == colon then record { token = opens None; length = 3 }
    else record { token = broken (unsupported at); length = 1 }

-- A quantifier of so many bytes, which a `?` behind it makes lazy.
abbrev pub count_sign : Count → ℕ → List ℕ → Sign
count_sign count length [] = record { token = counts count; length = length }
count_sign count length (b ∷ rest) =
    if b == question then record { token = counts (record count { greedy = false }); length = length + 1 }
    else record { token = counts count; length = length }

abbrev pub sign_count : ℕ → Option ℕ → Bool → Count
sign_count least most is_plus = record { least = least; most = most; greedy = true; is_sign = true; is_plus = is_plus }

-- ---- counts in braces

abbrev pub value_of : List ℕ → ℕ
value_of = fold (λ value digit. 10 * value + (digit - digit_zero)) 0

-- A number to 255, with leading zeros.
abbrev pub number : List ℕ → Option ℕ
number [] = None
number (digit ∷ digits) = if nat_lt 255 (value_of (digit ∷ digits)) then None
    else Some (value_of (digit ∷ digits))

-- A count, and how many bytes stand behind its `{` up to and with the `}`.
pub record Braces : Type 0 where
  pub least : ℕ
  pub most : Option ℕ
  pub length : ℕ

abbrev pub braces_between : ℕ → Option ℕ → ℕ → Option Braces
braces_between least None written = None
braces_between least (Some most) written = Some (record { least = least; most = Some most; length = written })

-- Behind `m,` and these digits: `}`, where there is a number or no digit.
abbrev pub braces_to : ℕ → ℕ → List ℕ → List ℕ → Option Braces
braces_to least written [] rest = if begins_with brace_close rest
    then Some (record { least = least; most = None; length = written + 1 }) else None
braces_to least written (digit ∷ digits) rest =
    if begins_with brace_close rest then braces_between least (number (digit ∷ digits))
    (written + length (digit ∷ digits) + 1) else None

abbrev pub digits_of : List ℕ → List ℕ
digits_of text = take (prefix_len is_ascii_digit text) text

abbrev pub behind_digits : List ℕ → List ℕ
behind_digits text = drop (prefix_len is_ascii_digit text) text

-- Behind the first number, which has so many digits.
abbrev pub braces_from : Option ℕ → ℕ → List ℕ → Option Braces
braces_from None digits rest = None
braces_from (Some least) digits [] = None
braces_from (Some least) digits (b ∷ rest) =
    if b == brace_close then Some (record { least = least; most = Some least; length = digits + 1 })
    else if b == comma then braces_to least (digits + 1) (digits_of rest) (behind_digits rest)
    else None

abbrev pub braces : List ℕ → Option Braces
braces text = braces_from (number (digits_of text)) (length (digits_of text)) (behind_digits text)

abbrev pub falls : Braces → Bool
falls braces = elim braces.most [ Some most ↦ nat_lt most braces.least | None ↦ false ]

-- A `{` that begins no count is a byte, but for `{,`.
abbrev pub brace_sign : ℕ → List ℕ → Option Braces → Sign
brace_sign at rest None =
    record { token = if begins_with comma rest then broken (unsupported at) else item (byte brace_open); length = 1 }
brace_sign at rest (Some braces) =
    if falls braces then record { token = broken (wrong_syntax at); length = 1 }
    else count_sign
    (record { least = braces.least; most = braces.most; greedy = true; is_sign = false; is_plus = false })
    (braces.length + 1) (drop braces.length rest)

-- ---- all signs

-- The sign that begins with this byte, by what stands behind it.
abbrev pub sign_at : Bool → ℕ → ℕ → ℕ → List ℕ → Sign
sign_at nocase groups at b rest =
    if b == backslash then escape_sign nocase at rest
    else if b == dot then record { token = item (class (set_where (λ c. true))); length = 1 }
    else if b == bracket_open then class_sign nocase at rest
    else if b == parenthesis_open then open_sign groups at rest
    else if b == parenthesis_close then record { token = closes; length = 1 }
    else if b == bar then record { token = bars; length = 1 }
    else if b == star then count_sign (sign_count 0 None false) 1 rest
    else if b == plus then count_sign (sign_count 1 None true) 1 rest
    else if b == question then count_sign (sign_count 0 (Some 1) false) 1 rest
    else if b == brace_open then brace_sign at rest (braces rest)
    else if b == caret then record { token = item start; length = 1 }
    else if b == dollar then record { token = item finish; length = 1 }
    else record { token = byte_item nocase b; length = 1 }

abbrev pub groups_with : Token → ℕ → ℕ
groups_with (opens (Some number)) groups = groups + 1
groups_with _ groups = groups

-- The tokens of a pattern from a place on, where so many groups began before, and the first so many
-- bytes belong to a sign before.
abbrev pub tokens_from : Bool → ℕ → ℕ → ℕ → List ℕ → List Placed
tokens_from nocase passed groups at [] = []
tokens_from nocase (suc passed) groups at (b ∷ rest) = tokens_from nocase passed groups (at + 1) rest
tokens_from nocase zero groups at (b ∷ rest) =
    record { at = at; token = (sign_at nocase groups at b rest).token }
    ∷ tokens_from nocase ((sign_at nocase groups at b rest).length - 1)
    (groups_with (sign_at nocase groups at b rest).token groups) (at + 1) rest

abbrev pub tokens_of : Bool → List ℕ → List Placed
tokens_of nocase text = tokens_from nocase 0 0 0 text
