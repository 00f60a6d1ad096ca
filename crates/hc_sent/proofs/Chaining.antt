-- A list that is gone through, each item with those before it and behind it.
use Rattle.std.proofs.Common.{◌≡◌, ℕ, ◌+◌, ◌<◌, ◌≤◌, List, [], ◌∷◌, ◌++◌, length, take, drop, get_or}
use Rattle.std.proofs.Common.{append_assoc, sym, ◌∙◌, ap, subst}
use Rattle.std.proofs.lemmas.List.{drop_all, drop_more, take_all, take_more}
use Rattle.hc_pat_lang.specs.Fragments.{Exists}

pub one_taken : {X : Type 0} (xs : List X) (i : ℕ) (x : X) → i < length xs → x ≡ get_or xs i x
    → take (i + 1) xs ≡ take i xs ++ x ∷ []
one_taken xs i x below at = take_more xs i x below ∙ ap (λ y. take i xs ++ y ∷ []) (sym at)

module _ {X Y : Type 0} (R : List X → List X → List Y → Type 0) where
  -- What holds of the items that are left, and what is found for them, holds of all behind what was found.
  abbrev pub GoesOn : List X → ℕ → List Y → Type 0
  GoesOn xs i found = (more : List Y) → R (take i xs) (drop i xs) more → R [] xs (found ++ more)

  pub further : (xs : List X) (i : ℕ) (x : X) (found own : List Y) → i < length xs → x ≡ get_or xs i x
      → ((more : List Y) → R (take i xs ++ x ∷ []) (drop (i + 1) xs) more
      → R (take i xs) (x ∷ drop (i + 1) xs) (own ++ more))
      → GoesOn xs i found → GoesOn xs (i + 1) (found ++ own)
  further xs i x found own below at put goes more rest =
      let after : drop i xs ≡ x ∷ drop (i + 1) xs =
      drop_more xs i x below ∙ ap (λ y. y ∷ drop (i + 1) xs) (sym at) in
      subst (R [] xs) (sym (append_assoc found own more))
      (goes (own ++ more)
      (subst (λ after. R (take i xs) after (own ++ more)) (sym after)
      (put more (subst (λ before. R before (drop (i + 1) xs) more) (one_taken xs i x below at) rest))))

  pub all_gone : (xs : List X) (i : ℕ) (found last : List Y) → length xs ≤ i → R xs [] last → GoesOn xs i found
      → R [] xs (found ++ last)
  all_gone xs i found last all end goes =
      goes last
      (subst (λ before. R before (drop i xs) last) (sym (take_all i xs all))
      (subst (λ after. R xs after last) (sym (drop_all i xs all)) end))

-- It holds of some item where it holds of some that is left.
module _ {X : Type 0} (P : X → Type 0) (xs : List X) where
  pub record IsLeftTo (i : ℕ) : Type 0 where
    pub some : Exists P (drop i xs) → Exists P xs
    pub all : Exists P xs → Exists P (drop i xs)
