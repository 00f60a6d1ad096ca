-- The status of a redirect (Apache manual, mod_alias, Redirect).
use Rattle.std.specs.Prelude.{ℕ, ◌+◌, ◌*◌, ◌-◌, ◌==◌, List, [], ◌∷◌, length, ◌&&◌, not}
use Rattle.std.specs.Prelude.{Bool, codes, nat_le, nat_lt}
use Rattle.std.specs.Prelude.{if◌then◌else◌, Option, Some, None, Result, Ok, Err}
use Rattle.std.specs.Char.{is_ascii_digit}
use Rattle.std.specs.List.{list_all}
use Rattle.hc_base.specs.Bytes.{digit_zero}
use Rattle.hc_base.specs.declared.fault.AtByte.{AtByte}
use Rattle.hc_table.specs.Table.{find_in}
use Rattle.hc_config.specs.Targets.{wrong}
use Rattle.hc_config.specs.declared.status.TheConstants.{GONE, PERMANENT, SEE_OTHER, TEMPORARY}
use Rattle.hc_config.specs.declared.status.TheConstants.{BEHIND_REDIRECTS, BEHIND_STATUSES, FIRST_STATUS}

-- Statuses by their names, without case.
abbrev pub status_names : List (List ℕ × ℕ)
status_names = (codes "permanent", PERMANENT) ∷ (codes "temp", TEMPORARY) ∷ (codes "seeother", SEE_OTHER)
    ∷ (codes "gone", GONE) ∷ []

abbrev pub in_range : ℕ → Option ℕ
in_range status = if nat_le FIRST_STATUS status && nat_lt status BEHIND_STATUSES then Some status else None

abbrev pub digits_status : ℕ → ℕ → ℕ → Option ℕ
digits_status a b c = in_range (100 * (a - digit_zero) + 10 * (b - digit_zero) + (c - digit_zero))

-- Three digits, from 300 to 599.
abbrev pub numbered : List ℕ → Option ℕ
numbered (a ∷ b ∷ c ∷ []) = if is_ascii_digit a && is_ascii_digit b && is_ascii_digit c then digits_status a b c
    else None
numbered word = None

abbrev pub or_numbered : Option ℕ → List ℕ → Option ℕ
or_numbered (Some status) word = Some status
or_numbered None word = numbered word

abbrev pub redirect_status : List ℕ → Option ℕ
redirect_status word = or_numbered (find_in status_names word) word

-- Digits alone.
abbrev pub is_digits : List ℕ → Bool
is_digits word = not (length word == 0) && list_all is_ascii_digit word

-- The status that a first word says, if it says one. A word of digits alone is no path and no pattern.
abbrev pub unless_digits : Option ℕ → List ℕ → Result (Option ℕ) AtByte
unless_digits (Some status) word = Ok (Some status)
unless_digits None word = if is_digits word then Err wrong else Ok None

abbrev pub first_status : List ℕ → Result (Option ℕ) AtByte
first_status word = unless_digits (redirect_status word) word

-- Only these statuses send a request to a URL.
abbrev pub has_url : ℕ → Bool
has_url status = nat_le FIRST_STATUS status && nat_lt status BEHIND_REDIRECTS
