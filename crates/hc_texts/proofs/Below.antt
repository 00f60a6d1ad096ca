-- A path that begins with another one.
use Rattle.std.proofs.Common.{◌≡◌, ℕ, Bool, true, false, ◌&&◌, ◌||◌, List, [], ◌∷◌, take, drop, length, nat_eq, refl, ◌++◌}
use Rattle.std.proofs.Common.{ap, sym, ◌∙◌, arith}
use Rattle.std.specs.Cmp.Lexicographic.{pointwise}
use Rattle.std.specs.List.{starts_with}
use Rattle.std.specs.Str.{bytes_eq}
use Rattle.hc_base.specs.Paths.{is_slash}
use Rattle.hc_texts.specs.Texts.{begins_below}
use Rattle.hc_world.specs.Edits.{is_within}

first_slash : (b : ℕ) → (nat_eq 47 b && true) ≡ is_slash b
first_slash b = grind arith

same_number : (a b : ℕ) → nat_eq a b ≡ nat_eq b a
same_number a b = grind arith

abbrev pub AreWithin : List ℕ → List ℕ → Type 0
AreWithin path other =
    (pointwise nat_eq (take (length path) other) path && begins_below (drop (length path) other)) ≡ is_within path other

pub within : (path other : List ℕ) → AreWithin path other
within [] [] = refl
within [] (b ∷ bs) = sym (first_slash b)
within (x ∷ xs) [] = refl
within (x ∷ xs) (b ∷ bs) =
    by (nat_eq b x) (within xs bs)
    ∙ ap (λ e. (nat_eq b x && bytes_eq bs xs) || (e && starts_with nat_eq bs (xs ++ 47 ∷ []))) (same_number b x)
  where
    by : (e : Bool) → AreWithin xs bs
        → ((e && pointwise nat_eq (take (length xs) bs) xs) && begins_below (drop (length xs) bs))
        ≡ ((e && bytes_eq bs xs) || (e && starts_with nat_eq bs (xs ++ 47 ∷ [])))
    by true more = more
    by false more = refl
