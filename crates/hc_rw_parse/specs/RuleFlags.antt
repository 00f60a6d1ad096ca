-- The flags of a RewriteRule, as they are written.
-- Apache manual, "RewriteRule Flags". The ranges of the numbers of S, N and R, and which flags are refused, are our own
-- choice.
use Rattle.std.specs.Prelude.{ℕ, ◌-◌, ◌==◌, ◌&&◌, List, [], ◌∷◌, ◌++◌, length, take, drop, Bool}
use Rattle.std.specs.Prelude.{true, false, if◌then◌else◌}
use Rattle.std.specs.Prelude.{nat_le, codes, Option, Some, None, Result, Ok, Err}
use Rattle.std.specs.List.{after_first, before_first, fold, list_any, slice_split}
use Rattle.std.specs.Str.{str_eq_ignore_ascii_case}
use Rattle.hc_addr.specs.Numbers.{at_most, decimal_of, is_colon, number_of}
use Rattle.hc_addr.specs.declared.sizes.TheConstants.{DECIMAL}
use Rattle.hc_base.specs.Bytes.{begins_with, bracket_close, bracket_open, comma, ends_with, equals, exclamation}
use Rattle.hc_base.specs.Rules.{rule}
use Rattle.hc_base.specs.declared.codes.TheConstants.{BAD_FLAG, UNSUPPORTED_FLAG}
use Rattle.hc_base.specs.declared.fault.AtByte.{AtByte}
use Rattle.hc_expr.specs.Reading.{lesser}
use Rattle.hc_model.specs.declared.rewrite.Flags.{Flags}
use Rattle.hc_model.specs.declared.template.Piece.{Piece}
use Rattle.hc_table.specs.Flags.{flag_rows}
use Rattle.hc_table.specs.Table.{find_in}
use Rattle.hc_table.specs.declared.flag.FlagName.{FlagName}
use Rattle.hc_table.specs.declared.flag.FlagName.TheVariants as name
use Rattle.hc_template.specs.Reading.{template}
use Rattle.hc_rw_parse.specs.Templates.{rewriting}
use Rattle.hc_rw_parse.specs.declared.flag.Flag.{Flag}
use Rattle.hc_rw_parse.specs.declared.flag.Flag.TheVariants as flag
use Rattle.hc_rw_parse.specs.declared.flags.Flagged.{Flagged}
use Rattle.hc_rw_parse.specs.declared.flag.TheConstants.{DEFAULT_ROUNDS, FOUND, MOST_ROUNDS, MOST_SKIPPED}
use Rattle.hc_rw_parse.specs.declared.flag.TheConstants.{FIRST_STATUS, LAST_STATUS, STATUS_DIGITS}

abbrev pub bad : {A : Type 0} → Result A AtByte
bad = Err (rule BAD_FLAG)

-- ---- values

-- A flag with what may follow its `=`.
abbrev pub Valued : Type 0
Valued = Option (List ℕ) → Result Flag AtByte

-- One that takes no value.
abbrev pub alone : Flag → Valued
alone flag None = Ok flag
alone flag (Some value) = bad

-- One that takes any value or none, and has no effect here.
abbrev pub without_effect : Valued
without_effect value = Ok flag.NoEffect

abbrev pub unsupported : Valued
unsupported value = Err (rule UNSUPPORTED_FLAG)

-- What a value is read as, or the flag is refused.
abbrev pub read_as : {A : Type 0} → (A → Flag) → Option A → Result Flag AtByte
read_as made None = bad
read_as made (Some read) = Ok (made read)

abbrev pub from_one : Option ℕ → Option ℕ
from_one None = None
from_one (Some n) = if nat_le 1 n then Some n else None

-- A decimal number from 1 to this one.
abbrev pub count_to : ℕ → List ℕ → Option ℕ
count_to most text = from_one (at_most most (decimal_of text))

-- `N` and `N=n`.
abbrev pub next : Valued
next None = Ok (flag.Next DEFAULT_ROUNDS)
next (Some value) = read_as flag.Next (count_to MOST_ROUNDS value)

-- `S=n`.
abbrev pub skip : Valued
skip None = bad
skip (Some value) = read_as flag.Skip (count_to MOST_SKIPPED value)

abbrev pub in_statuses : Option ℕ → Option ℕ
in_statuses None = None
in_statuses (Some n) = if nat_le FIRST_STATUS n && nat_le n LAST_STATUS then Some n else None

-- The names of statuses, without case.
abbrev pub status_names : List (List ℕ × ℕ)
status_names = (codes "permanent", 301) ∷ (codes "temp", FOUND) ∷ (codes "seeother", 303) ∷ []

abbrev pub status_among : List (List ℕ × ℕ) → List ℕ → Option ℕ
status_among [] text = in_statuses (number_of DECIMAL STATUS_DIGITS text)
status_among (row ∷ rows) text = if str_eq_ignore_ascii_case row.0 text then Some row.1 else status_among rows text

-- `R` and `R=status`.
abbrev pub redirect : Valued
redirect None = Ok (flag.Redirect FOUND)
redirect (Some value) = read_as flag.Redirect (status_among status_names value)

-- ---- E

-- A name that isn't empty.
abbrev pub if_named : List ℕ → Result Flag AtByte → Result Flag AtByte
if_named name flag = if length name == 0 then bad else flag

abbrev pub set_to : List ℕ → Result (List Piece) AtByte → Result Flag AtByte
set_to name (Err broken) = Err broken
set_to name (Ok value) = Ok (flag.Set (record { name = name; value = Some value }))

abbrev pub unset : List ℕ → Flag
unset name = flag.Set (record { name = name; value = None })

-- `name:value`, and `name` with an empty value.
abbrev pub set : List ℕ → Result Flag AtByte
set text =
    if_named (before_first is_colon text)
    (set_to (before_first is_colon text) (template rewriting (after_first is_colon text)))

-- `!name` takes the variable away.
abbrev pub environment_of : List ℕ → Result Flag AtByte
environment_of text = if begins_with exclamation text then if_named (drop 1 text) (Ok (unset (drop 1 text)))
    else set text

-- `E=..`.
abbrev pub environment : Valued
environment None = bad
environment (Some value) = environment_of value

-- ---- one flag

abbrev pub valued_by : FlagName → Valued
valued_by name.Last = alone flag.Last
valued_by name.End = alone flag.End
valued_by name.Next = next
valued_by name.Chain = alone flag.Chain
valued_by name.Skip = skip
valued_by name.Forbidden = alone flag.Forbid
valued_by name.Gone = alone flag.Gone
valued_by name.Redirect = redirect
valued_by name.AppendQuery = alone flag.AppendQuery
valued_by name.DiscardQuery = alone flag.DiscardQuery
valued_by name.NoCase = alone flag.NoCase
valued_by name.NoEscape = alone flag.NoEscape
valued_by name.PassThrough = alone flag.Pass
valued_by name.DiscardPath = alone flag.DiscardPath
valued_by name.Environment = environment
valued_by name.Type = without_effect
valued_by name.Handler = without_effect
valued_by name.Cookie = without_effect
valued_by name.NoSubrequest = alone flag.NoEffect
valued_by name.Unsupported = unsupported

abbrev pub is_equals : ℕ → Bool
is_equals b = b == equals

-- What follows the first `=`.
abbrev pub value_in : List ℕ → Option (List ℕ)
value_in text = if list_any is_equals text then Some (after_first is_equals text) else None

abbrev pub flag_named : Option FlagName → Valued
flag_named None value = bad
flag_named (Some found) value = valued_by found value

-- By its short or long name, without case.
abbrev pub flag_of : List ℕ → Result Flag AtByte
flag_of text = flag_named (find_in flag_rows (before_first is_equals text)) (value_in text)

-- ---- all flags

abbrev pub no_flags : Flags
no_flags = record {
  last = false;
  end = false;
  next = false;
  chain = false;
  skip = 0;
  forbid = false;
  gone = false;
  redirect = 0;
  qsa = false;
  qsd = false;
  noescape = false;
  pass = false;
  discard = false;
  sets = [];
  rounds = 0;
}

-- Of equal flags the last one counts; of E each.
abbrev pub with_flag : Flags → Flag → Flags
with_flag flags flag.Last = record flags { last = true }
with_flag flags flag.End = record flags { end = true }
with_flag flags (flag.Next rounds) = record flags { next = true; rounds = rounds }
with_flag flags flag.Chain = record flags { chain = true }
with_flag flags (flag.Skip count) = record flags { skip = count }
with_flag flags flag.Forbid = record flags { forbid = true }
with_flag flags flag.Gone = record flags { gone = true }
with_flag flags (flag.Redirect status) = record flags { redirect = status }
with_flag flags flag.AppendQuery = record flags { qsa = true }
with_flag flags flag.DiscardQuery = record flags { qsd = true }
with_flag flags flag.NoCase = flags
with_flag flags flag.NoEscape = record flags { noescape = true }
with_flag flags flag.Pass = record flags { pass = true }
with_flag flags flag.DiscardPath = record flags { discard = true }
with_flag flags (flag.Set set) = record flags { sets = flags.sets ++ set ∷ [] }
with_flag flags flag.NoEffect = flags

-- NC is no part of a rule: its pattern was read with it.
abbrev pub is_nocase : Flag → Bool → Bool
is_nocase flag.NoCase nocase = true
is_nocase flag nocase = nocase

abbrev pub with_refusal : Option AtByte → AtByte → AtByte
with_refusal None broken = broken
with_refusal (Some earlier) broken = lesser earlier broken

-- What was read of the flags: of refusals the one with the smallest number is kept.
abbrev pub with_read : Flagged → Result Flag AtByte → Flagged
with_read so_far (Ok flag) =
    record so_far { flags = with_flag so_far.flags flag; nocase = is_nocase flag so_far.nocase }
with_read so_far (Err broken) = record so_far { broken = Some (with_refusal so_far.broken broken) }

abbrev pub with_text : Flagged → List ℕ → Flagged
with_text so_far text = with_read so_far (flag_of text)

abbrev pub nothing_flagged : Flagged
nothing_flagged = record { flags = no_flags; nocase = false; broken = None }

abbrev pub is_comma : ℕ → Bool
is_comma b = b == comma

abbrev pub flagged_by : List (List ℕ) → Flagged
flagged_by texts = fold with_text nothing_flagged texts

-- ---- the word

abbrev pub is_bracketed : List ℕ → Bool
is_bracketed word = nat_le 2 (length word) && begins_with bracket_open word && ends_with bracket_close word

abbrev pub inside : List ℕ → List ℕ
inside word = take (length word - 2) (drop 1 word)

abbrev pub not_bracketed : Flagged
not_bracketed = record nothing_flagged { broken = Some (rule BAD_FLAG) }

-- `[flag,..]`, without blanks.
abbrev pub flags_in : List ℕ → Flagged
flags_in word = if is_bracketed word then flagged_by (slice_split is_comma (inside word)) else not_bracketed
