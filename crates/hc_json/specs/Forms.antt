-- What the fields of an `ask` are read as. Our own choice.
use Rattle.std.specs.Prelude.{ℕ, List, [], ◌∷◌, Bool, true, false, ◌&&◌, not}
use Rattle.std.specs.Prelude.{nat_le, Option, Some, None, if◌then◌else◌, option_and_then, option_map}
use Rattle.std.specs.Prelude.{unwrap_or, Result, codes}
use Rattle.std.specs.BTreeSet.{contains, insert_key}
use Rattle.std.specs.Cmp.Lexicographic.{slice_cmp}
use Rattle.std.specs.Ordering.{nat_cmp}
use Rattle.std.specs.Str.{bytes_eq, str_to_ascii_lowercase}
use Rattle.serde_json.specs.Data.{Data, Members, no_members, member}
use Rattle.serde_json.specs.Find.{as_number, as_object, as_str, as_u64}
use Rattle.hc_addr.specs.Addresses.{addr_of}
use Rattle.hc_addr.specs.declared.addr.Addr.{Addr}
use Rattle.hc_model.specs.declared.request.Header.{Header}
use Rattle.hc_model.specs.declared.request.Scheme.{Scheme}
use Rattle.hc_model.specs.declared.request.Scheme.TheVariants.{Http, Https}
use Rattle.hc_forms.specs.Forms.{is_name, is_value}
use Rattle.hc_json.specs.Fields.{wanted}
use Rattle.hc_json.specs.declared.asked.TheConstants.{HIGHEST_PORT}
use Rattle.hc_json.specs.declared.fields.TheConstants.{LAST_LINE}

-- ---- what a value is read as, where it is of its form

abbrev pub such_that : {A : Type 0} → (A → Bool) → Option A → Option A
such_that test None = None
such_that test (Some x) = if test x then Some x else None

abbrev pub text_where : (List ℕ → Bool) → Data → Option (List ℕ)
text_where test d = such_that test (as_str d)

abbrev pub scheme_named : List ℕ → Option Scheme
scheme_named name =
    if bytes_eq name (codes "http") then Some Http
    else (if bytes_eq name (codes "https") then Some Https
    else None)

abbrev pub scheme_from : Data → Option Scheme
scheme_from d = option_and_then scheme_named (as_str d)

abbrev pub addr_from : Data → Option Addr
addr_from d = option_and_then addr_of (as_str d)

abbrev pub is_port : ℕ → Bool
is_port n = nat_le n HIGHEST_PORT

-- JSON writes a whole number without a sign, a fraction and an exponent.
abbrev pub port_from : Data → Option ℕ
port_from d = such_that is_port (option_and_then as_u64 (as_number d))

-- The number of a line.
abbrev pub line_from : Data → Option ℕ
line_from d = such_that (λ n. nat_le n LAST_LINE) (option_and_then as_u64 (as_number d))

abbrev pub line_in : List ℕ → Data → Result ℕ (List ℕ)
line_in key d = wanted key line_from d

-- ---- headers, the members of an object

abbrev pub is_value_of : Option (List ℕ) → Bool
is_value_of None = false
is_value_of (Some value) = is_value value

-- Among these names, which stand in order.
abbrev pub is_taken : List (List ℕ) → List ℕ → Bool
is_taken names name = contains (slice_cmp nat_cmp) (record { keys = names }) name

-- Each member is a header, and no two names are equal without case: put one after another in lower case into the
-- ordered
-- set of those before, none is there already.
abbrev pub are_headers : List (List ℕ) → Members → Bool
are_headers names no_members = true
are_headers names (member name d rest) =
    is_name name && is_value_of (as_str d) && not (is_taken names (str_to_ascii_lowercase name))
    && are_headers (insert_key (slice_cmp nat_cmp) names (str_to_ascii_lowercase name)) rest

abbrev pub header_of : List ℕ → Data → Header
header_of name d = record { name = name; value = unwrap_or (as_str d) [] }

-- The headers that members are, in their order.
abbrev pub headers_of : Members → List Header
headers_of no_members = []
headers_of (member name d rest) = header_of name d ∷ headers_of rest

abbrev pub members_from : Data → Option Members
members_from d = such_that (are_headers []) (as_object d)

abbrev pub headers_from : Data → Option (List Header)
headers_from d = option_map headers_of (members_from d)
