-- What follows the first `=`.
use Rattle.std.proofs.Common.{◌≡◌, ℕ, suc, ◌+◌, Bool, true, false, cond, nat_lt, List, [], ◌∷◌}
use Rattle.std.proofs.Common.{length, drop, Some, None, refl, ap, ◌∙◌, arith}
use Rattle.std.proofs.lemmas.Bool.Decides.{nat_tests}
use Rattle.std.specs.List.{list_any, position, position_or_len}
use Rattle.std.specs.Option.{option_map}
use Rattle.hc_rw_parse.specs.RuleFlags.{is_equals, value_in}

one_less : (place count : ℕ) → nat_lt place count ≡ nat_lt (1 + place) (suc count)
one_less place count = grind (arith, nat_tests)

none_less : (count : ℕ) → true ≡ nat_lt 0 (suc count)
none_less count = grind (arith, nat_tests)

passes-here : (p : ℕ → Bool) (x : ℕ) (xs : List ℕ) (here : Bool) → p x ≡ here
    → list_any p xs ≡ nat_lt (position_or_len p xs) (length xs)
    → list_any p (x ∷ xs) ≡ nat_lt (position_or_len p (x ∷ xs)) (suc (length xs))
passes-here p x xs true e more = rw e (none_less (length xs))
passes-here p x xs false e more = rw e (more ∙ one_less (position_or_len p xs) (length xs))

passes : (p : ℕ → Bool) (xs : List ℕ) → list_any p xs ≡ nat_lt (position_or_len p xs) (length xs)
passes p [] = refl
passes p (x ∷ xs) = passes-here p x xs (p x) refl (passes p xs)

read_at : (text : List ℕ) (at : ℕ) (found : Bool) → cond found (Some (drop (at + 1) text)) None
    ≡ option_map (λ place. drop (place + 1) text) (cond found (Some at) None)
read_at text at true = refl
read_at text at false = refl

pub value_at : (text : List ℕ) → value_in text ≡ option_map (λ place. drop (place + 1) text)
    (position is_equals text)
value_at text =
    ap (λ found. cond found (Some (drop (position_or_len is_equals text + 1) text)) None) (passes is_equals text)
    ∙ read_at text (position_or_len is_equals text) _
