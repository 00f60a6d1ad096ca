-- The forms of the texts of a request. Our own choice.
use Rattle.std.specs.Prelude.{ℕ, ◌==◌, List, length, Bool, ◌&&◌, ◌||◌, not, nat_le, nat_lt, codes}
use Rattle.std.specs.Char.{is_ascii_alphanumeric, is_ascii_uppercase}
use Rattle.std.specs.List.{list_all}
use Rattle.std.specs.Str.{str_eq_ignore_ascii_case}
use Rattle.hc_base.specs.Bytes.{dash, dot, hash, space, tilde, underscore}
use Rattle.hc_base.specs.Paths.{begins_with_slash}
use Rattle.hc_forms.specs.declared.forms.TheConstants.{LONGEST_HOST, LONGEST_METHOD, LONGEST_NAME, LONGEST_TARGET}
use Rattle.hc_forms.specs.declared.forms.TheConstants.{LONGEST_VALUE}

-- At least one byte, and at most so many, that all pass this test.
abbrev pub is_word : ℕ → (ℕ → Bool) → List ℕ → Bool
is_word most test text = nat_lt 0 (length text) && nat_le (length text) most && list_all test text

-- Bytes that are printed, without the space and `#`.
abbrev pub is_target_byte : ℕ → Bool
is_target_byte b = nat_lt space b && nat_le b tilde && not (b == hash)

abbrev pub is_target : List ℕ → Bool
is_target target = begins_with_slash target && nat_le (length target) LONGEST_TARGET && list_all is_target_byte target

abbrev pub is_method : List ℕ → Bool
is_method method = is_word LONGEST_METHOD is_ascii_uppercase method

abbrev pub is_host_byte : ℕ → Bool
is_host_byte b = is_ascii_alphanumeric b || (b == dot) || (b == dash)

-- It may be empty.
abbrev pub is_host : List ℕ → Bool
is_host host = nat_le (length host) LONGEST_HOST && list_all is_host_byte host

abbrev pub is_name_byte : ℕ → Bool
is_name_byte b = is_ascii_alphanumeric b || (b == dash) || (b == underscore)

-- Host is a field of its own.
abbrev pub is_name : List ℕ → Bool
is_name name = is_word LONGEST_NAME is_name_byte name && not (str_eq_ignore_ascii_case name (codes "Host"))

abbrev pub is_value_byte : ℕ → Bool
is_value_byte b = nat_le space b && nat_le b tilde

abbrev pub is_value : List ℕ → Bool
is_value value = nat_le (length value) LONGEST_VALUE && list_all is_value_byte value
