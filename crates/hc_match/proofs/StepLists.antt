-- Lists of steps that grow.
use Rattle.hc_match.proofs.Common.{◌≡◌, ℕ, zero, suc, ◌<◌, List, [], ◌∷◌, ◌++◌, length, slice_get}
use Rattle.hc_match.proofs.Common.{if◌then◌else◌, eqb, refl, ap, arith, eq-eqb, ne_eqb, Ways, Kept, Meaning}

pub get_kept : {A : Type 0} (xs ys : List A) (i : ℕ) → i < length xs → slice_get (xs ++ ys) i ≡ slice_get xs i
get_kept [] ys i within = absurd (omega (arith, within))
get_kept (x ∷ xs) ys zero within = refl
get_kept (x ∷ xs) ys (suc i) within = get_kept xs ys i (omega (arith, within))

-- A meaning with one place more.
abbrev pub placed : ℕ → Ways Kept → Meaning → Meaning
placed count ways before place = if eqb place count then ways else before place

pub placed_there : (count : ℕ) (ways : Ways Kept) (before : Meaning) → placed count ways before count ≡ ways
placed_there count ways before = ap (λ v. if v then ways else before count) (eq-eqb count count refl)

pub placed_before : (count : ℕ) (ways : Ways Kept) (before : Meaning) (place : ℕ) → place < count
    → placed count ways before place ≡ before place
placed_before count ways before place within =
    ap (λ v. if v then ways else before place) (ne_eqb place count (λ same. omega (arith, same, within)))
