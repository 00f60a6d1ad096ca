-- Numbers of pieces between changes.
use Rattle.hc_dfa.proofs.Common.{◌≡◌, ℕ, ◌+◌, ◌-◌, ◌<◌, ◌≤◌, ◌⊎◌, inl, inr, List, []}
use Rattle.hc_dfa.proofs.Common.{◌∷◌, ◌++◌, length, length-append, slice_index, slice_index_or, Bool, true}
use Rattle.hc_dfa.proofs.Common.{false, sym, ◌∙◌, ap, arith, subst, ArePieces, Has}
use Rattle.hc_dfa.proofs.Grouped.{old_item, new_item}

-- The numbers of the bytes so far, the last of which is in the piece with the greatest number.
pub record IsCounting (changes : List Bool) (count piece : ℕ) (numbers : List ℕ) : Type 0 where
  pub len : length numbers ≡ count
  pub few : piece ≤ count
  pub most : (b : ℕ) → b < count → slice_index numbers b ≤ piece
  pub last : 0 < count → slice_index numbers (count - 1) ≡ piece
  pub pieces : ArePieces changes count numbers

module _ (changes : List Bool) (count piece new : ℕ) (numbers : List ℕ)
    (is : IsCounting changes count piece numbers) where
  early : (b : ℕ) → b < count → slice_index (numbers ++ new ∷ []) b ≡ slice_index numbers b
  early b below = old_item numbers new b (let l = is.len in omega arith)

  late : (b : ℕ) → b ≡ count → slice_index (numbers ++ new ∷ []) b ≡ new
  late b e = ap (λ k. slice_index (numbers ++ new ∷ []) k) (e ∙ sym is.len) ∙ new_item numbers new

  -- The number of one more byte: it goes on with the last piece only where it is no change.
  pub one_more : piece ≤ new → new ≤ piece + 1 → (new ≡ piece → Has changes count → ⊥)
      → IsCounting changes (count + 1) new (numbers ++ new ∷ [])
  one_more least most isnt = record {
    len = (let l = length-append numbers (new ∷ []) in let k = is.len in omega arith);
    few = (let f = is.few in omega arith);
    most = λ b below.
        let cases : (b < count) ⊎ (b ≡ count) = grind arith in
        elim cases [
          | inl o ↦ (let e = early b o in let m = is.most b o in omega arith)
          | inr e ↦
              (let f = late b e in omega arith)
        ];
    last = λ some. late (count + 1 - 1) (omega arith);
    pieces = λ b d k db same bk kd has.
        let bo = early b (omega arith) in
        let cases : (d < count) ⊎ (d ≡ count) = grind arith in
        elim cases [
          | inl o ↦ is.pieces b d k o (sym bo ∙ (same ∙ early d o)) bk kd has
          | inr e ↦ (
              let f = late d e in
              let m = is.most b (omega arith) in
              let one : new ≡ piece = omega arith in
              let l = is.last (omega arith) in
              let place : (k < count) ⊎ (k ≡ count) = grind arith in
              elim place [
                | inl before ↦ is.pieces b (count - 1) k (omega arith) (omega arith) bk (omega arith) has
                | inr here ↦ isnt one (subst (λ (x : ℕ). Has changes x) here has)
              ])
        ];
  }

pub counting_more : (changes : List Bool) (count piece : ℕ) (numbers : List ℕ) (change : Bool)
    (value : Bool → ℕ) → value true ≡ 1 → value false ≡ 0
    → slice_index_or changes count false ≡ change → IsCounting changes count piece numbers
    → IsCounting changes (count + 1) (piece + value change) (numbers ++ (piece + value change) ∷ [])
counting_more changes count piece numbers true value one none e is =
    one_more changes count piece (piece + value true) numbers is (omega arith) (omega arith)
    (λ same. absurd (omega arith))
counting_more changes count piece numbers false value one none e is =
    one_more changes count piece (piece + value false) numbers is (omega arith) (omega arith) (λ same has. absurd (cc))
