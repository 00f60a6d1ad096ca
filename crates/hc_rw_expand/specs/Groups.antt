-- What the groups of a pattern hold, as templates read them.
-- Apache manual, mod_rewrite, "Test String": `$0` to `$9` and `%0` to `%9`.
use Rattle.std.specs.Prelude.{ℕ, List, [], ◌∷◌, map, slice_get, Bool, true, false, Option, Some, None}
use Rattle.std.specs.Option.{option_and_then}
use Rattle.hc_base.specs.Spans.{spanned}
use Rattle.hc_base.specs.declared.place.Span.{Span}
use Rattle.hc_ways.specs.Kept.{Held}
use Rattle.hc_rw_expand.specs.declared.groups.Matched.{Matched}

-- The groups that a template can name.
abbrev pub numbers : List ℕ
numbers = 0 ∷ 1 ∷ 2 ∷ 3 ∷ 4 ∷ 5 ∷ 6 ∷ 7 ∷ 8 ∷ 9 ∷ []

-- A text in which a pattern was found.
abbrev pub matched_in : List ℕ → Held → Matched
matched_in text held = record { text = text; spans = map held numbers }

abbrev pub span_at : List (Option Span) → ℕ → Option Span
span_at spans number = option_and_then (λ span. span) (slice_get spans number)

-- What a group holds; nothing where it was not set, or no pattern was found.
abbrev pub group_of : Option Matched → ℕ → List ℕ
group_of None number = []
group_of (Some matched) number = spanned matched.text (span_at matched.spans number)

-- The last pattern without negation that was found sets `%0` to `%9`.
abbrev pub newer : Bool → Option Matched → Option Matched → Option Matched
newer true found earlier = earlier
newer false None earlier = earlier
newer false (Some found) earlier = Some found
