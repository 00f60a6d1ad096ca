-- The end of a text.
use Rattle.std.proofs.Common.{◌≡◌, ℕ, suc, ◌-◌, List, [], ◌∷◌, length, refl, arith, Some, None}
use Rattle.std.proofs.Common.{Option, Bor, nat_eq}
use Rattle.std.specs.List.{slice_get}
use Rattle.std.specs.Option.{option_eq, option_copied}
use Rattle.hc_base.specs.Bytes.{ends_with}

pub ends_with-last : (byte : ℕ) (bs : List ℕ)
    → ends_with byte bs ≡ option_eq nat_eq (slice_get bs (length bs - 1)) (Some byte)
ends_with-last byte [] = refl
ends_with-last byte (b ∷ []) = refl
ends_with-last byte (b ∷ c ∷ bs) =
    let e : suc (suc (length bs)) - 1 ≡ suc (suc (length bs) - 1) = omega arith in
    rw (e, ends_with-last byte (c ∷ bs)) refl

-- a comparison of references is one of what they point to
pub option_eq-now : (o : Option (Bor ℕ)) (r : Bor ℕ) → option_eq (λ x y. nat_eq x.now y.now) o (Some r)
    ≡ option_eq nat_eq (option_copied o) (Some r.now)
option_eq-now None r = refl
option_eq-now (Some x) r = refl
