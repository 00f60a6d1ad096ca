-- The lowest bit that a mask leaves open.
use Rattle.std.proofs.Common.{◌≡◌, ◌∙◌, ℕ, ◌-◌, ◌*◌, ◌%◌, ◌^◌, ◌<◌, ◌≤◌}
use Rattle.std.proofs.Common.{◌⊎◌, inl, inr, refl, ap, arith}
use Rattle.std.proofs.lemmas.Bool.{cases_eq}
use Rattle.std.proofs.lemmas.Nat.{one_shl}
use Rattle.std.proofs.lemmas.Nat.Bits.{bit_at-trailing_ones, bit_at_ones}
use Rattle.std.specs.Int.{bit_at, trailing_ones, w128}
use Rattle.std.specs.Int.Count.{trailing_of_zero}
use Rattle.hc_abs_authz.specs.Clients.{IsLowestOpen}

module _ (width mask place : ℕ) (fits : mask < 2 ^ 128) (few : width ≤ 128) (is : place ≡ trailing_ones w128 mask) where
  full : mask ≡ 2 ^ 128 - 1 → place ≡ 128
  full all = is ∙ ap (trailing_ones w128) all ∙ trailing_of_zero 128

  pub one_open : place < width → IsLowestOpen width mask (1 * 2 ^ place % 2 ^ 128)
  one_open below = by (cases_eq mask (2 ^ 128 - 1))
    where
      by : (mask ≡ 2 ^ 128 - 1) ⊎ (mask ≡ 2 ^ 128 - 1 → ⊥) → IsLowestOpen width mask (1 * 2 ^ place % 2 ^ 128)
      by (inl all) = let at : place ≡ 128 = full all in absurd (omega arith)
      by (inr some) =
          let found = bit_at-trailing_ones w128 mask (omega arith) in
          inl (
            place,
            below,
            ap (bit_at mask) is ∙ found.1,
            λ i low. found.2 i (omega arith),
            one_shl place 128 (omega arith),
          )

  pub none_open : width ≤ place → IsLowestOpen width mask 0
  none_open above = inr (by (cases_eq mask (2 ^ 128 - 1)), refl)
    where
      by : (mask ≡ 2 ^ 128 - 1) ⊎ (mask ≡ 2 ^ 128 - 1 → ⊥) → (i : ℕ) → i < width → bit_at mask i ≡ 1
      by (inl all) i low = ap (λ n. bit_at n i) all ∙ bit_at_ones 128 i (omega arith)
      by (inr some) i low = (bit_at-trailing_ones w128 mask (omega arith)).2 i (omega arith)
