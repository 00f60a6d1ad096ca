-- A list that is cut at its first item of a kind.
use Rattle.std.proofs.Common.{◌≡◌, ℕ, ◌+◌, ◌≤◌, nat_lt, List, [], ◌∷◌, length, take, drop}
use Rattle.std.proofs.Common.{position, Bool, true, false, ◌||◌, is_some, cond, Some, None, refl, sym, ap}
use Rattle.std.proofs.Common.{◌∙◌, arith}
use Rattle.std.specs.List.{after_first, before_first, list_any, position_from, position_or_len}
use Rattle.std.proofs.lemmas.Bool.{ltb-false}
use Rattle.std.proofs.lemmas.Iterator.Adapters.{position_from-zero}
use Rattle.std.proofs.lemmas.List.{drop-drop, drop_all, take_all}

place_is : (n len : ℕ) (v : Bool) (place : ℕ) → nat_lt n len ≡ v → cond v (Some n) None ≡ Some place
    → n ≡ place
place_is n len true place e is = cc
place_is n len false place e is = absurd (cc is)

none_is : (n len : ℕ) (v : Bool) → nat_lt n len ≡ v → cond v (Some n) None ≡ None → len ≤ n
none_is n len true e is = absurd (cc is)
none_is n len false e is = omega (arith, ltb-false n len e)

-- What stands before and behind the place.
pub cut_there : {A : Type 0} (p : A → Bool) (xs : List A) (place : ℕ) → position p xs ≡ Some place
    → (before_first p xs ≡ take place xs) × (after_first p xs ≡ drop 1 (drop place xs))
cut_there p xs place is =
    let e = place_is (position_or_len p xs) (length xs) _ place refl is in
    (ap (λ n. take n xs) e, ap (λ n. drop (n + 1) xs) e ∙ sym (drop-drop 1 place xs))

pub cut_nowhere : {A : Type 0} (p : A → Bool) (xs : List A) → position p xs ≡ None → (before_first p xs ≡ xs)
    × (after_first p xs ≡ [])
cut_nowhere p xs is =
    let le = none_is (position_or_len p xs) (length xs) _ refl is in
    (take_all (position_or_len p xs) xs le, drop_all (position_or_len p xs + 1) xs (omega arith))

any_from : {A : Type 0} (p : A → Bool) (i : ℕ) (xs : List A) → list_any p xs ≡ is_some (position_from p i xs)
any_from p i [] = refl
any_from p i (x ∷ xs) = any_at (p x) (any_from p (i + 1) xs) where
  any_at : (v : Bool) → list_any p xs ≡ is_some (position_from p (i + 1) xs)
      → (v || list_any p xs) ≡ is_some (cond v (Some i) (position_from p (i + 1) xs))
  any_at true more = refl
  any_at false more = more

-- There is such a place where there is such an item.
pub any_there : {A : Type 0} (p : A → Bool) (xs : List A) → list_any p xs ≡ is_some (position p xs)
any_there p xs = any_from p 0 xs ∙ ap is_some (sym (position_from-zero p xs))

pub ruleset cuts = (cut_there, cut_nowhere, any_there)
