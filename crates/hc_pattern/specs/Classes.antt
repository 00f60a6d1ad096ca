-- Classes (PCRE, "pcrepattern": "Square brackets and character classes").
use Rattle.std.specs.Prelude.{ℕ, zero, suc, ◌+◌, ◌-◌, ◌==◌, Bool, true, false, not, ◌&&◌, ◌||◌}
use Rattle.std.specs.Prelude.{List, [], ◌∷◌, Option, Some, None, if◌then◌else◌, nat_le, nat_lt}
use Rattle.std.specs.Option.{option_or}
use Rattle.std.specs.List.{list_any}
use Rattle.std.specs.Char.{to_ascii_lowercase, to_ascii_uppercase}
use Rattle.hc_base.specs.Bytes.{bracket_close, dash}
use Rattle.hc_base.specs.declared.fault.AtByte.{AtByte}
use Rattle.hc_pattern.specs.Members.{Member, one, many, hyphen, refused, member_at}
use Rattle.hc_pattern.specs.Refusals.{wrong_syntax}

-- A member at its place.
pub record Placed : Type 0 where
  pub at : ℕ
  pub member : Member

-- The members of a class up to its `]` or to the end of the text, whether it is closed, and how many
-- bytes they and the `]` are.
pub record Class : Type 0 where
  pub members : List Placed
  pub closed : Bool
  pub length : ℕ

abbrev pub one_longer : Class → Class
one_longer c = record c { length = c.length + 1 }

abbrev pub with_member : Placed → Class → Class
with_member placed c = record c { members = placed ∷ c.members }

-- The class from a place on, where the first so many bytes belong to a member before. A `]` as the
-- first member is a member.
abbrev pub class_from : ℕ → Bool → ℕ → List ℕ → Class
class_from passed first at [] = record { members = []; closed = false; length = 0 }
class_from (suc passed) first at (b ∷ rest) = one_longer (class_from passed first (at + 1) rest)
class_from zero first at (b ∷ rest) =
    if (b == bracket_close) && not first then record { members = []; closed = true; length = 1 }
    else with_member (record { at = at; member = (member_at at b rest).member })
    (one_longer (class_from ((member_at at b rest).length - 1) false (at + 1) rest))

-- A part of a class: a range, which may be of one byte, a set, or what is refused.
pub data ClassPart : Type 0 where
  range : ℕ → ℕ → ℕ → ClassPart
  set : List (ℕ × ℕ) → ClassPart
  broken : AtByte → ClassPart

abbrev pub part_of : Placed → ClassPart
part_of placed = elim placed.member [
  | one b ↦ range placed.at b b
  | many ranges ↦ set ranges
  | hyphen ↦ range placed.at dash dash
  | refused refusal ↦ broken refusal
]

abbrev pub is_hyphen : Member → Bool
is_hyphen hyphen = true
is_hyphen _ = false

-- A range from the first part to the third, where these are bytes and a hyphen stands between them.
abbrev pub joined : ClassPart → Bool → ClassPart → Option ClassPart
joined (range at first first2) true (range at3 last last2) = Some (range at first last)
joined _ _ _ = None

abbrev pub parts_of : List Placed → List ClassPart
parts_of [] = []
parts_of (x ∷ []) = part_of x ∷ []
parts_of (x ∷ y ∷ []) = part_of x ∷ part_of y ∷ []
parts_of (x ∷ y ∷ z ∷ more) = elim (joined (part_of x) (is_hyphen y.member) (part_of z))
    [ Some part ↦ part ∷ parts_of more | None ↦ part_of x ∷ parts_of (y ∷ z ∷ more) ]

abbrev pub part_refusal : ClassPart → Option AtByte
part_refusal (range at first last) = if nat_lt last first then Some (wrong_syntax at) else None
part_refusal (set ranges) = None
part_refusal (broken refusal) = Some refusal

-- The first refusal, in reading from the left.
abbrev pub parts_refusal : List ClassPart → Option AtByte
parts_refusal [] = None
parts_refusal (part ∷ parts) = option_or (part_refusal part) (parts_refusal parts)

abbrev pub is_in_ranges : ℕ → List (ℕ × ℕ) → Bool
is_in_ranges b ranges = list_any (λ range. nat_le range.0 b && nat_le b range.1) ranges

abbrev pub is_in_part : ℕ → ClassPart → Bool
is_in_part b (range at first last) = nat_le first b && nat_le b last
is_in_part b (set ranges) = is_in_ranges b ranges
is_in_part b (broken refusal) = false

-- Without case, a letter is in where it or its other case is.
abbrev pub folded : Bool → (ℕ → Bool) → ℕ → Bool
folded nocase test b = test b || (nocase && (test (to_ascii_lowercase b) || test (to_ascii_uppercase b)))

-- A complement is taken last.
abbrev pub class_test : Bool → Bool → List ClassPart → ℕ → Bool
class_test nocase complement parts b =
    if complement then not (folded nocase (λ c. list_any (is_in_part c) parts) b)
    else folded nocase (λ c. list_any (is_in_part c) parts) b
