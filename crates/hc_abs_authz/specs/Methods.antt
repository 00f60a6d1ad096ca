-- The methods of requests.
use Rattle.std.specs.Prelude.{ℕ, List, Bool, true, false, ◌||◌, codes}
use Rattle.std.specs.List.{list_any}
use Rattle.std.specs.Str.{bytes_eq}
use Rattle.hc_authz.specs.Values.{is_method}
use Rattle.hc_dfa.specs.Texts.{IsEmptySet, TextSet}
use Rattle.hc_plan.specs.Ways.{HasText}

-- Whether the set has a text.
abbrev pub HasAnswer : TextSet → Bool → Type 0
HasAnswer set true = HasText set
HasAnswer set false = IsEmptySet set

-- GET and HEAD count as one.
abbrev pub is_get : TextSet
is_get name = bytes_eq name (codes "GET") || bytes_eq name (codes "HEAD")

-- The methods that are one of these.
abbrev pub is_one_of : List (List ℕ) → TextSet
is_one_of names asked = list_any (is_method asked) names
