-- Known bytes over several calls.
use Rattle.hc_session.proofs.Common.{◌≡◌, ℕ, List, [], ◌++◌, take, drop, Option, Some, None, refl, sym, ap}
use Rattle.hc_session.proofs.Common.{◌∙◌, append_assoc, append-nil, take-append-drop, Appends, Consumes, Keeps}

pub appends_none : (a : Option (List ℕ)) → Appends a a []
appends_none None = tt
appends_none (Some xs) = sym (append-nil xs)

pub consumes_none : (a : Option (List ℕ)) → Consumes a a []
consumes_none None = tt
consumes_none (Some xs) = refl

pub appends_more : (a b c : Option (List ℕ)) (xs ys : List ℕ) → Appends a b xs → Appends b c ys
    → Appends a c (xs ++ ys)
appends_more None b c xs ys f g = tt
appends_more (Some a) None c xs ys f g = absurd f
appends_more (Some a) (Some b) None xs ys f g = absurd g
appends_more (Some a) (Some b) (Some c) xs ys f g = g ∙ ap (λ l. l ++ ys) f ∙ append_assoc a xs ys

pub consumes_more : (a b c : Option (List ℕ)) (xs ys : List ℕ) → Consumes a b xs → Consumes b c ys
    → Consumes a c (xs ++ ys)
consumes_more None b c xs ys f g = tt
consumes_more (Some a) None c xs ys f g = absurd f
consumes_more (Some a) (Some b) None xs ys f g = absurd g
consumes_more (Some a) (Some b) (Some c) xs ys f g = f ∙ ap (λ l. xs ++ l) g ∙ sym (append_assoc xs ys c)

pub consumes_keeps : (a b c : Option (List ℕ)) (xs : List ℕ) → Consumes a b xs → Keeps b c → Consumes a c xs
consumes_keeps None b c xs f k = tt
consumes_keeps (Some a) None c xs f k = absurd f
consumes_keeps (Some a) (Some b) None xs f k = absurd k
consumes_keeps (Some a) (Some b) (Some c) xs f k = f ∙ ap (λ l. xs ++ l) (sym k)

-- After n bytes of what was left.
pub sent_more : (piece sent rest back : List ℕ) (n : ℕ) → piece ≡ sent ++ rest → back ≡ drop n rest
    → piece ≡ (sent ++ take n rest) ++ back
sent_more piece sent rest back n whole split = whole ∙ ap (λ l. sent ++ l) (sym (take-append-drop n rest))
    ∙ sym (append_assoc sent (take n rest) (drop n rest)) ∙ ap (λ l. (sent ++ take n rest) ++ l) (sym split)
