-- URLs with a scheme, and the statuses that lead to them.
-- Apache manual, mod_rewrite, RewriteRule; mod_alias, Redirect. Schemes are compared without case (RFC 3986, section
-- 3.1).
use Rattle.std.specs.Prelude.{ℕ, List, length, take, Bool, ◌||◌, ◌&&◌, nat_le, nat_lt, codes}
use Rattle.std.specs.Str.{str_eq_ignore_ascii_case}

-- Without case.
abbrev pub begins_without_case : List ℕ → List ℕ → Bool
begins_without_case front text = str_eq_ignore_ascii_case front (take (length front) text)

abbrev pub is_url : List ℕ → Bool
is_url text = begins_without_case (codes "http://") text || begins_without_case (codes "https://") text

-- A status with a location.
abbrev pub is_redirection : ℕ → Bool
is_redirection status = nat_le 300 status && nat_lt status 400
