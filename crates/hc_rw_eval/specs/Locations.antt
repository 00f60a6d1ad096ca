-- Where a substitution leads: a path of the server's own, or a location that the request is sent to.
-- Apache manual, mod_rewrite, RewriteRule ("Substitution"); "RewriteRule Flags": R, NE. Which schemes are outside, and
-- when a
-- query is escaped, is our own choice.
use Rattle.std.specs.Prelude.{ℕ, ◌==◌, List, [], ◌∷◌, ◌++◌, length, drop, Bool, true, false, ◌&&◌}
use Rattle.std.specs.Prelude.{◌||◌, if◌then◌else◌, codes}
use Rattle.std.specs.Prelude.{Option, Some, None}
use Rattle.std.specs.Char.{is_ascii_alphabetic, is_ascii_alphanumeric}
use Rattle.std.specs.List.{before_first, starts_with}
use Rattle.std.specs.Prelude.{nat_eq}
use Rattle.std.specs.Str.{bytes_eq}
use Rattle.hc_addr.specs.Numbers.{at_most, decimal_of}
use Rattle.hc_addr.specs.declared.sizes.TheConstants.{HIGHEST_PORT}
use Rattle.hc_base.specs.Bytes.{colon, dash, dot, plus, question}
use Rattle.hc_base.specs.Paths.{is_slash}
use Rattle.hc_model.specs.declared.request.Caller.{Caller}
use Rattle.hc_model.specs.declared.request.Scheme.{Scheme}
use Rattle.hc_target.specs.Escapes.{escaped}
use Rattle.hc_target.specs.Urls.{begins_without_case}
use Rattle.hc_template.specs.Variables.{default_port, scheme_name}

-- ---- what a text begins with

abbrev pub is_scheme_byte : ℕ → Bool
is_scheme_byte b = is_ascii_alphanumeric b || ((b == plus) || ((b == dash) || (b == dot)))

-- Letters, digits, `+`, `-` and `.`, and then `://`.
abbrev pub scheme_ends : List ℕ → Bool
scheme_ends [] = false
scheme_ends (b ∷ bs) = starts_with nat_eq (b ∷ bs) (codes "://") || (is_scheme_byte b && scheme_ends bs)

-- A letter, and then these.
abbrev pub has_scheme : List ℕ → Bool
has_scheme [] = false
has_scheme (b ∷ bs) = is_ascii_alphabetic b && scheme_ends bs

-- ---- the server's own name

abbrev pub is_number : ℕ → Option ℕ → Bool
is_number port None = false
is_number port (Some number) = number == port

-- Nothing stands for the scheme's default port.
abbrev pub is_port : Scheme → ℕ → List ℕ → Bool
is_port scheme port [] = port == default_port scheme
is_port scheme port (b ∷ digits) = (b == colon) && is_number port (at_most HIGHEST_PORT (decimal_of digits))

abbrev pub own_front : Scheme → List ℕ
own_front scheme = scheme_name scheme ++ codes "://"

-- An authority of the server: its name without case, alone where the port is the scheme's default one, or with `:port`.
abbrev pub is_own : Caller → List ℕ → Bool
is_own caller authority =
    begins_without_case caller.name authority
    && is_port caller.request.scheme caller.request.port (drop (length caller.name) authority)

-- Nothing stands for `/`.
abbrev pub or_slash : List ℕ → List ℕ
or_slash [] = codes "/"
or_slash (b ∷ bs) = b ∷ bs

-- What follows the authority, which ends before the first slash.
abbrev pub path_behind : Caller → List ℕ → Option (List ℕ)
path_behind caller rest =
    if is_own caller (before_first is_slash rest) then Some (or_slash (drop (length (before_first is_slash rest)) rest))
    else None

-- The path of a URL of the server's own: the scheme of the request without case, and an authority of the server.
abbrev pub own_path : Caller → List ℕ → Option (List ℕ)
own_path caller text =
    if begins_without_case (own_front caller.request.scheme) text
    then path_behind caller (drop (length (own_front caller.request.scheme)) text) else None

-- ---- locations

abbrev pub unless_kept : Bool → List ℕ → List ℕ
unless_kept true text = text
unless_kept false text = escaped text

-- A query from before the pass stays as it came.
abbrev pub query_part : Bool → List ℕ → List ℕ → List ℕ
query_part noescape first query =
    if length query == 0 then [] else question ∷ unless_kept (noescape || bytes_eq query first) query

-- The text behind what is not escaped, and the query.
abbrev pub location : Bool → List ℕ → List ℕ → List ℕ → List ℕ → List ℕ
location noescape front text first query = front ++ unless_kept noescape text ++ query_part noescape first query
