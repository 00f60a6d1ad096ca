-- How tokens are read.
use Rattle.hc_pattern.proofs.Common.{◌≡◌, ℕ, zero, suc, ◌+◌, ◌-◌, ◌<◌, ◌≤◌, Bool, List, []}
use Rattle.hc_pattern.proofs.Common.{◌∷◌, ◌++◌, length, drop, take, get_or, refl, sym, ap, ◌∙◌}
use Rattle.hc_pattern.proofs.Common.{append_assoc, arith, map-append, map}
use Rattle.hc_pattern.proofs.Rests.{next_item, rest_is}
use Rattle.hc_pattern.specs.TokenViews.{placed_view}
use Rattle.hc_pattern.specs.Tokens.{Placed, Sign, Token, groups_with, sign_at, tokens_from}
use Rattle.hc_pattern.specs.declared.token.Placed.{Placed as PlacedOfBytes}

one_passed : (nocase : Bool) (passed groups at b : ℕ) (rest : List ℕ) → 0 < passed
    → tokens_from nocase passed groups at (b ∷ rest) ≡ tokens_from nocase (passed - 1) groups (at + 1) rest
one_passed nocase zero groups at b rest some = absurd (omega arith)
one_passed nocase (suc passed) groups at b rest some = let e : suc passed - 1 ≡ passed = omega arith in rw e refl

-- The next byte belongs to a sign before.
pub token_passed : (nocase : Bool) (before : List Placed) (text : List ℕ) (passed groups i : ℕ) → i < length text
    → 0 < passed
    → before ++ tokens_from nocase (passed - 1) groups (i + 1) (drop (i + 1) text)
    ≡ before ++ tokens_from nocase passed groups i (drop i text)
token_passed nocase before text passed groups i within some =
    ap (λ l. before ++ l)
    (sym (ap (tokens_from nocase passed groups i) (next_item text i 0 within)
    ∙ one_passed nocase passed groups i (get_or text i 0) (drop (i + 1) text) some))

here : (nocase : Bool) (passed groups at b : ℕ) (rest : List ℕ) (sign : Sign) → passed ≤ 0
    → sign ≡ sign_at nocase groups at b rest
    → tokens_from nocase passed groups at (b ∷ rest) ≡ record { at = at; token = sign.token }
    ∷ tokens_from nocase (sign.length - 1) (groups_with sign.token groups) (at + 1) rest
here nocase zero groups at b rest sign none is = rw is refl
here nocase (suc passed) groups at b rest sign none is = absurd (omega arith)

-- The next byte begins a sign.
pub token_more : (nocase : Bool) (before all : List PlacedOfBytes) (now : PlacedOfBytes) (text : List ℕ)
    (passed groups i more later : ℕ) (sign : Sign) → i < length text → passed ≤ 0
    → sign ≡ sign_at nocase groups i (get_or text i 0) (take (length text - (i + 1)) (drop (i + 1) text))
    → placed_view now ≡ record { at = i; token = sign.token } → more ≡ sign.length - 1
    → later ≡ groups_with sign.token groups → all ≡ before ++ now ∷ []
    → map placed_view all ++ tokens_from nocase more later (i + 1) (drop (i + 1) text) ≡ map placed_view before
    ++ tokens_from nocase passed groups i (drop i text)
token_more nocase before all now text passed groups i more later sign within none is seen follow counted added =
    let rest = drop (i + 1) text in
    let same : sign ≡ sign_at nocase groups i (get_or text i 0) rest =
    is ∙ ap (sign_at nocase groups i (get_or text i 0)) (rest_is text i) in
    let others = tokens_from nocase (sign.length - 1) (groups_with sign.token groups) (i + 1) rest in
    sym (ap (λ l. map placed_view before ++ tokens_from nocase passed groups i l) (next_item text i 0 within)
    ∙ ap (λ l. map placed_view before ++ l) (here nocase passed groups i (get_or text i 0) rest sign none same)
    ∙ sym (append_assoc (map placed_view before) (record { at = i; token = sign.token } ∷ []) others)
    ∙ ap (λ placed. (map placed_view before ++ placed ∷ []) ++ others) (sym seen)
    ∙ ap (λ l. l ++ others) (sym (ap (map placed_view) added ∙ map-append placed_view before (now ∷ [])))
    ∙ ap (λ n. map placed_view all ++ tokens_from nocase n (groups_with sign.token groups) (i + 1) rest) (sym follow)
    ∙ ap (λ n. map placed_view all ++ tokens_from nocase more n (i + 1) rest) (sym counted))

abbrev pub token_at : Token → ℕ → Placed
token_at token at = record { at = at; token = token }
