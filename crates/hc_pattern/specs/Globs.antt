-- Globs: our own choice, after the Apache manual ("fnmatch") and the shell.
use Rattle.std.specs.Prelude.{ℕ, zero, suc, ◌+◌, ◌==◌, Bool, true, false, not, ◌&&◌, ◌||◌, List, []}
use Rattle.std.specs.Prelude.{◌∷◌, length, Option, Some, None, Result, Ok, Err, if◌then◌else◌, nat_le}
use Rattle.std.specs.Prelude.{nat_lt, option_map}
use Rattle.std.specs.List.{list_any}
use Rattle.hc_base.specs.Bytes.{backslash, bracket_close, bracket_open, caret, dash, exclamation, question, slash, star}
use Rattle.hc_base.specs.declared.fault.AtByte.{AtByte}
use Rattle.hc_pattern.specs.Bits.{set_where}
use Rattle.hc_pattern.specs.declared.mark.Mark.{Mark}
use Rattle.hc_pattern.specs.declared.mark.Range.{Range}
use Rattle.hc_pattern.specs.Pattern.{Pattern, byte, class, start, finish, cat, repeat}
use Rattle.hc_pattern.specs.Refusals.{most_nodes, too_large, wrong_syntax}

-- Of a byte of a glob a `Mark` says its place, and that it is plain where a backslash before it makes it
-- so; its place is then that of the backslash.

-- The bytes of a glob, from a place on. A final backslash is a byte.
abbrev pub marks_from : ℕ → List ℕ → List Mark
marks_from at [] = []
marks_from at (b ∷ []) = record { byte = b; plain = false; at = at } ∷ []
marks_from at (b ∷ c ∷ rest) =
    if b == backslash then record { byte = c; plain = true; at = at } ∷ marks_from (at + 2) rest
    else record { byte = b; plain = false; at = at } ∷ marks_from (at + 1) (c ∷ rest)

-- It is this byte and not plain, so it means what that byte means.
abbrev pub means : ℕ → Mark → Bool
means b mark = (mark.byte == b) && not mark.plain

-- What stands before the first `]`.
abbrev pub before_close : List Mark → Option (List Mark)
before_close [] = None
before_close (mark ∷ marks) = if means bracket_close mark then Some [] else option_map (λ more. mark ∷ more)
    (before_close marks)

-- The members of a class, by what stands behind its `[`, `[!` or `[^`: a `]` as the first is a member.
abbrev pub members_of : List Mark → Option (List Mark)
members_of [] = None
members_of (first ∷ marks) = option_map (λ more. first ∷ more) (before_close marks)

abbrev pub is_complement : List Mark → Bool
is_complement [] = false
is_complement (mark ∷ marks) = means exclamation mark || means caret mark

-- A class: whether it is a complement, and its members.
pub record Class : Type 0 where
  pub complement : Bool
  pub members : List Mark

abbrev pub class_of : List Mark → Option Class
class_of [] = None
class_of (mark ∷ marks) =
    if is_complement (mark ∷ marks) then option_map (λ members. record { complement = true; members = members })
    (members_of marks)
    else option_map (λ members. record { complement = false; members = members }) (members_of (mark ∷ marks))

-- A member of a class and a range of two.
abbrev pub single : Mark → Range
single mark = record { at = mark.at; first = mark.byte; last = mark.byte }

abbrev pub between : Mark → Mark → Range
between one other = record { at = one.at; first = one.byte; last = other.byte }

-- The ranges of a class, of which a single member is one.
abbrev pub ranges_of : List Mark → List Range
ranges_of [] = []
ranges_of (one ∷ []) = single one ∷ []
ranges_of (one ∷ two ∷ []) = single one ∷ single two ∷ []
ranges_of (one ∷ two ∷ three ∷ more) =
    if means dash two then between one three ∷ ranges_of more else single one ∷ ranges_of (two ∷ three ∷ more)

abbrev pub is_in : ℕ → Range → Bool
is_in b range = nat_le range.first b && nat_le b range.last

abbrev pub is_among : ℕ → List Range → Bool
is_among b ranges = list_any (is_in b) ranges

-- The place of the first range that falls.
abbrev pub falling : List Range → Option ℕ
falling [] = None
falling (range ∷ ranges) = if nat_lt range.last range.first then Some range.at else falling ranges

-- A piece of a glob.
pub data GlobPiece : Type 0 where
  plain : ℕ → GlobPiece
  any_byte : GlobPiece
  any_bytes : GlobPiece
  one_of : Class → GlobPiece

abbrev pub class_or_byte : ℕ → Option Class → GlobPiece
class_or_byte b None = plain b
class_or_byte b (Some c) = one_of c

-- The piece that begins with this byte. A `[` that isn't closed is a byte.
abbrev pub piece_at : Mark → List Mark → GlobPiece
piece_at mark marks =
    if means question mark then any_byte
    else if means star mark then any_bytes
    else if means bracket_open mark then class_or_byte mark.byte (class_of marks)
    else plain mark.byte

-- How many bytes of a piece follow its first one: those of a class up to and with its `]`.
abbrev pub more_of : GlobPiece → ℕ
more_of (one_of c) = (if c.complement then 1 else 0) + length c.members + 1
more_of _ = 0

-- The pieces, where the first so many bytes belong to a piece before.
abbrev pub pieces_of : ℕ → List Mark → List GlobPiece
pieces_of passed [] = []
pieces_of (suc passed) (mark ∷ marks) = pieces_of passed marks
pieces_of zero (mark ∷ marks) = piece_at mark marks ∷ pieces_of (more_of (piece_at mark marks)) marks

-- What `?`, `*` and classes may be: with `keeps_slash` no slash.
abbrev pub may_be : Bool → ℕ → Bool
may_be keeps_slash b = not (keeps_slash && (b == slash))

abbrev pub in_class : Bool → Class → ℕ → Bool
in_class keeps_slash c b =
    may_be keeps_slash b
    && (if c.complement then not (is_among b (ranges_of c.members)) else is_among b (ranges_of c.members))

abbrev pub unless_falling : Option ℕ → Pattern → Result Pattern AtByte
unless_falling None pattern = Ok pattern
unless_falling (Some at) pattern = Err (wrong_syntax at)

abbrev pub piece_pattern : Bool → GlobPiece → Result Pattern AtByte
piece_pattern keeps_slash (plain b) = Ok (byte b)
piece_pattern keeps_slash any_byte = Ok (class (set_where (may_be keeps_slash)))
piece_pattern keeps_slash any_bytes = Ok (repeat (class (set_where (may_be keeps_slash))) 0 None true)
piece_pattern keeps_slash (one_of c) =
    unless_falling (falling (ranges_of c.members)) (class (set_where (in_class keeps_slash c)))

-- A pattern before others, where none is refused before it.
abbrev pub before_all : Result Pattern AtByte → Result (List Pattern) AtByte → Result (List Pattern) AtByte
before_all (Err refusal) others = Err refusal
before_all (Ok pattern) (Err refusal) = Err refusal
before_all (Ok pattern) (Ok patterns) = Ok (pattern ∷ patterns)

-- The patterns of the pieces, or the refusal of the first one that is refused.
abbrev pub patterns_of : Bool → List GlobPiece → Result (List Pattern) AtByte
patterns_of keeps_slash [] = Ok []
patterns_of keeps_slash (piece ∷ pieces) =
    before_all (piece_pattern keeps_slash piece) (patterns_of keeps_slash pieces)

abbrev pub in_a_row : List Pattern → Pattern
in_a_row [] = finish
in_a_row (one ∷ more) = cat one (in_a_row more)

-- Between the start and the end of a text.
abbrev pub anchored : Result (List Pattern) AtByte → Result Pattern AtByte
anchored (Err refusal) = Err refusal
anchored (Ok patterns) = if nat_lt most_nodes (length patterns) then Err too_large
    else Ok (cat start (in_a_row patterns))

abbrev pub glob_pieces : List ℕ → List GlobPiece
glob_pieces text = pieces_of 0 (marks_from 0 text)

-- The pattern of a glob, which a whole text has to match.
abbrev pub glob_pattern : List ℕ → Bool → Result Pattern AtByte
glob_pattern text keeps_slash = anchored (patterns_of keeps_slash (glob_pieces text))

-- ---- wildcards

abbrev pub is_wildcard : GlobPiece → Bool
is_wildcard (plain b) = false
is_wildcard any_byte = true
is_wildcard any_bytes = true
is_wildcard (one_of c) = true

-- Up to the first wildcard each byte is a piece.
abbrev pub some_wildcard : List Mark → Bool
some_wildcard [] = false
some_wildcard (mark ∷ marks) = is_wildcard (piece_at mark marks) || some_wildcard marks

abbrev pub has_wildcard : List ℕ → Bool
has_wildcard text = some_wildcard (marks_from 0 text)
