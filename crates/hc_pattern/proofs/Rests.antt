-- What stands behind a place of a list.
use Rattle.hc_pattern.proofs.Common.{◌≡◌, ℕ, ◌+◌, ◌-◌, ◌<◌, List, ◌∷◌, length, length-drop}
use Rattle.hc_pattern.proofs.Common.{drop, take, get_or, sym, ap, ◌∙◌, add-one, arith, take_all}
use Rattle.std.proofs.Math.Seq.{drop-cons}

pub next_item : {A : Type 0} (xs : List A) (i : ℕ) (d : A) → i < length xs
    → drop i xs ≡ get_or xs i d ∷ drop (i + 1) xs
next_item xs i d within = drop-cons xs i d within ∙ ap (λ j. get_or xs i d ∷ drop j xs) (sym (add-one i))

-- `&xs[i + 1..]`
pub rest_is : {A : Type 0} (xs : List A) (i : ℕ) → take (length xs - (i + 1)) (drop (i + 1) xs) ≡ drop (i + 1) xs
rest_is xs i = take_all (length xs - (i + 1)) (drop (i + 1) xs) (simp length-drop (omega arith))
