-- A copy of entries equals them.
use Rattle.std.proofs.Common.{◌≡◌, List, [], ◌∷◌, refl}
use Rattle.std.specs.List.{AllZip}
use Rattle.hc_cache.specs.declared.cache.Kept.{Kept}

pub all_same : {X : Type 0} (R : X → X → Type 0) → ((x y : X) → R x y → y ≡ x) → (xs ys : List X) → AllZip R xs ys
    → ys ≡ xs
all_same R same [] [] alike = refl
all_same R same [] (y ∷ ys) alike = absurd alike
all_same R same (x ∷ xs) [] alike = absurd alike
all_same R same (x ∷ xs) (y ∷ ys) alike =
    let first = same x y alike.0 in
    let rest = all_same R same xs ys alike.1 in
    λ i. first i ∷ rest i

module _ {K V : Type 0} (C : K → K → Type 0) (D : V → V → Type 0) where
  -- An entry of clones, with the same reads and the same number.
  abbrev pub IsCopy : K × Kept V → K × Kept V → Type 0
  IsCopy e f = C e.0 f.0 × ((f.1.reads ≡ e.1.reads) × (f.1.at ≡ e.1.at) × D e.1.value f.1.value)

  pub same_entry : ((x y : K) → C x y → y ≡ x) → ((x y : V) → D x y → y ≡ x) → (e f : K × Kept V) → IsCopy e f
      → f ≡ e
  same_entry keys values e f copied =
      let key = keys e.0 f.0 copied.0 in
      let reads = copied.1.0 in
      let at = copied.1.1 in
      let value = values (e.1).value (f.1).value copied.1.2 in
      λ i. (key i, record { reads = reads i; at = at i; value = value i })
