-- Entries before a place and from it on.
use Rattle.std.proofs.Common.{◌≡◌, ℕ, zero, suc, ◌+◌, List, [], ◌∷◌, ◌++◌, take, drop, ap, arith}

pub before_more : {A : Type 0} (xs : List A) (n : ℕ) (x : A) (rest : List A) → drop n xs ≡ x ∷ rest
    → take (n + 1) xs ≡ take n xs ++ x ∷ []
before_more [] zero x rest is = cc
before_more [] (suc n) x rest is = cc
before_more (y ∷ ys) zero x rest is = cc
before_more (y ∷ ys) (suc n) x rest is =
    let next : suc n + 1 ≡ suc (n + 1) = omega arith in
    rw next (ap (λ more. y ∷ more) (before_more ys n x rest is))

pub next_place : {A : Type 0} (xs : List A) (n : ℕ) (x : A) (rest : List A) → drop n xs ≡ x ∷ rest
    → drop (n + 1) xs ≡ rest
next_place [] zero x rest is = cc
next_place [] (suc n) x rest is = cc
next_place (y ∷ ys) zero x rest is = cc
next_place (y ∷ ys) (suc n) x rest is =
    let next : suc n + 1 ≡ suc (n + 1) = omega arith in rw next (next_place ys n x rest is)
