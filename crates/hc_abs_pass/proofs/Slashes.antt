-- Merging slashes is what the plan of it comes to.
use Rattle.hc_abs_pass.proofs.Common.{◌≡◌, List, [], ◌∷◌, Bool, true, false, ◌&&◌, ◌||◌}
use Rattle.hc_abs_pass.proofs.Common.{if◌then◌else◌, refl, sym, ap, ℕ, true≢false}
use Rattle.hc_base.specs.Paths.{has_double_slash, is_slash, merge_slashes}
use Rattle.hc_plan.specs.Running.{tidied}

-- A text without two slashes beside each other stays.
single_stays : (path : List ℕ) → has_double_slash path ≡ false → merge_slashes path ≡ path
single_stays [] single = refl
single_stays (b ∷ []) single = refl
single_stays (b ∷ c ∷ bs) single = by (is_slash b && is_slash c) single (single_stays (c ∷ bs))
  where
    by : (two : Bool) → (two || has_double_slash (c ∷ bs)) ≡ false
        → (has_double_slash (c ∷ bs) ≡ false → merge_slashes (c ∷ bs) ≡ c ∷ bs)
        → (if two then merge_slashes (c ∷ bs) else b ∷ merge_slashes (c ∷ bs)) ≡ b ∷ c ∷ bs
    by true single rest = absurd (true≢false single)
    by false single rest = ap (λ rest. b ∷ rest) (rest single)

pub tidied_is : (path : List ℕ) → tidied has_double_slash merge_slashes path ≡ merge_slashes path
tidied_is path = by (has_double_slash path) refl
  where
    by : (double : Bool) → has_double_slash path ≡ double
        → (if double then merge_slashes path else path) ≡ merge_slashes path
    by true is = refl
    by false is = sym (single_stays path is)
