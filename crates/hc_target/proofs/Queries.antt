-- A text without `?` before a query.
use Rattle.hc_target.proofs.Common.{◌≡◌, ℕ, ◌+◌, false, eqb, List, [], ◌∷◌, ◌++◌, length, drop}
use Rattle.hc_target.proofs.Common.{take, sym, refl, ap, ◌∙◌, append-nil, arith, length-append, AllByRecursion}
use Rattle.hc_target.proofs.Common.{after_first, before_first, position_or_len, drop_all, drop_at, drop_more, take_all}
use Rattle.hc_target.proofs.Common.{take_at, question, is_question}

abbrev pub HasNone : List ℕ → Type 0
HasNone text = AllByRecursion (λ b. eqb b question ≡ false) text

at_end : (text rest : List ℕ) → HasNone text → position_or_len is_question rest ≡ 0
    → position_or_len is_question (text ++ rest) ≡ length text
at_end [] rest h e = e
at_end (b ∷ bs) rest h e = rw h.0 (let n = at_end bs rest h.1 e in omega arith)

pub before_query : (text query : List ℕ) → HasNone text → before_first is_question (text ++ question ∷ query)
    ≡ text
before_query text query h =
    ap (λ n. take n (text ++ question ∷ query)) (at_end text (question ∷ query) h refl)
    ∙ take_at text (question ∷ query) _ refl

pub after_query : (text query : List ℕ) → HasNone text → after_first is_question (text ++ question ∷ query)
    ≡ query
after_query text query h =
    let all = text ++ question ∷ query in
    let rest = drop_at text (question ∷ query) _ refl in
    let more = drop_more all (length text) 0 (omega (arith, length-append text (question ∷ query))) in
    ap (λ n. drop (n + 1) all) (at_end text (question ∷ query) h refl) ∙ cc

at_end_alone : (text : List ℕ) → HasNone text → position_or_len is_question text ≡ length text
at_end_alone text h = ap (position_or_len is_question) (sym (append-nil text)) ∙ at_end text [] h refl

pub before_none : (text : List ℕ) → HasNone text → before_first is_question text ≡ text
before_none text h = take_all _ text (omega (arith, at_end_alone text h))

pub after_none : (text : List ℕ) → HasNone text → after_first is_question text ≡ []
after_none text h = drop_all _ text (omega (arith, at_end_alone text h))
