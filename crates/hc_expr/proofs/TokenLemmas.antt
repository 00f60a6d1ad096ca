-- How tokens are read.
use Rattle.hc_expr.proofs.Common.{◌≡◌, ℕ, suc, ◌+◌, ◌-◌, ◌<◌, ◌==◌, false, List, [], ◌∷◌}
use Rattle.hc_expr.proofs.Common.{◌++◌, length, refl, sym, ap, ◌∙◌, append_assoc, true≢false, arith}
use Rattle.hc_expr.proofs.Common.{map-append, map, Token, past_blanks, token_at, tokens_in, token_view}
use Rattle.hc_expr.specs.declared.token.Token.{Token as TokenOfBytes}

one_more : (turns : ℕ) (text : List ℕ) → (length text == 0) ≡ false
    → tokens_in (suc turns) text ≡ (token_at text).0 ∷ tokens_in turns (past_blanks (token_at text).1)
one_more turns [] some = absurd (true≢false some)
one_more turns (b ∷ bs) some = refl

pub token_more : (before all : List TokenOfBytes) (now : TokenOfBytes) (next text : List ℕ)
    (found : Token × List ℕ) (n i : ℕ)
    → i < n → (length text == 0) ≡ false → found ≡ token_at text → token_view now ≡ found.0
    → next ≡ past_blanks found.1 → all ≡ before ++ now ∷ []
    → map token_view all ++ tokens_in (n - (i + 1)) next ≡ map token_view before ++ tokens_in (n - i) text
token_more before all now next text found n i within some is seen behind added =
    let e : n - i ≡ suc (n - (i + 1)) = omega arith in
    let rest = tokens_in (n - (i + 1)) (past_blanks found.1) in
    ap (λ l. map token_view all ++ tokens_in (n - (i + 1)) l) behind
    ∙ ap (λ l. map token_view l ++ rest) added
    ∙ ap (λ l. l ++ rest) (map-append token_view before (now ∷ []))
    ∙ append_assoc (map token_view before) (token_view now ∷ []) rest
    ∙ ap (λ t. map token_view before ++ t ∷ rest) seen
    ∙ ap (λ f. map token_view before ++ f.0 ∷ tokens_in (n - (i + 1)) (past_blanks f.1)) is
    ∙ ap (λ l. map token_view before ++ l) (sym (one_more (n - (i + 1)) text some))
    ∙ ap (λ k. map token_view before ++ tokens_in k text) (sym e)
