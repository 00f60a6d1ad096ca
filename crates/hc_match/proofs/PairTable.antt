-- A table of pairs with one more.
use Rattle.std.proofs.Common.{◌≡◌, ℕ, ◌+◌, ◌*◌, ◌/◌, ◌%◌, ◌^◌, ◌<◌, ◌⊎◌, inl, inr}
use Rattle.std.proofs.Common.{Bool, true, false, List, length, get_or, set, eqb, nat_lt, if◌then◌else◌, refl, sym}
use Rattle.std.proofs.Common.{ap, ◌∙◌, arith, w64, get_or-set_same, get_or-set_other, ltb-true}
use Rattle.std.proofs.lemmas.Bool.{cases_eq}
use Rattle.std.proofs.lemmas.Nat.{same_from_place}
use Rattle.std.proofs.lemmas.Nat.Bits.{bit_at_set_other}
use Rattle.std.specs.Prelude.{IsTrue, bit_or}
use Rattle.std.specs.Int.{bit_at}
use Rattle.hc_match.specs.Failures.{has_failed, has_number}
use Rattle.hc_match.specs.declared.failures.Failures.{Failures}

-- Only the bit of its number is set.
pub number_set : (words : List ℕ) (number word other : ℕ) → number / 64 < length words
    → word ≡ get_or words (number / 64) 0
    → IsTrue (has_number (set words (number / 64) (bit_or word (1 * 2 ^ (number % 64) % 2 ^ 64))) other)
    → IsTrue (has_number words other) ⊎ (other ≡ number)
number_set words number word other within read is =
    let v : ℕ = bit_or word (1 * 2 ^ (number % 64) % 2 ^ 64) in
    elim (cases_eq other number) [
      | inl same ↦ inr same
      | inr apart ↦
          inl
          ((elim (cases_eq (other / 64) (number / 64))
          as (λ _. has_number words other ≡ has_number (set words (number / 64) v) other) [
            | inl row ↦
                sym
                (ap (λ x. eqb (bit_at (get_or (set words (number / 64) v) x 0) (other % 64)) 1) row
                ∙ ap (λ x. eqb (bit_at x (other % 64)) 1) (get_or-set_same words (number / 64) v 0 within)
                ∙ ap (λ x. eqb x 1)
                (bit_at_set_other w64 word (number % 64) (omega arith) (other % 64) (omega arith))
                ∙ ap (λ x. eqb (bit_at x (other % 64)) 1) (read ∙ ap (λ x. get_or words x 0) (sym row)))
            | inr rows ↦ sym
                (ap (λ x. eqb (bit_at x (other % 64)) 1) (get_or-set_other words (number / 64) (other / 64) v 0 rows))
          ])
          ∙ is)
    ]

one_pair : (old new : Failures) (step at other there : ℕ) (v : Bool) → nat_lt there old.width ≡ v
    → at < old.width
    → ((number : ℕ) → IsTrue (has_number new.words.items number) → IsTrue (has_number old.words.items number)
    ⊎ (number ≡ step * old.width + at))
    → IsTrue (if v then has_number new.words.items (other * old.width + there) else false)
    → IsTrue (if v then has_number old.words.items (other * old.width + there) else false)
    ⊎ ((other ≡ step) × (there ≡ at))
one_pair old new step at other there true within first bits is =
    elim (bits (other * old.width + there) is) [
      | inl old_bit ↦ inl old_bit
      | inr same ↦ inr (same_from_place other there step at old.width (ltb-true there old.width within) first same)
    ]
one_pair old new step at other there false within first bits is = inl is

-- Only the pair is added.
pub pair_added : (old new : Failures) (step at number : ℕ) → new.width ≡ old.width
    → number ≡ step * old.width + at → at < old.width
    → ((other : ℕ) → IsTrue (has_number new.words.items other) → IsTrue (has_number old.words.items other)
    ⊎ (other ≡ number))
    → (other there : ℕ) → IsTrue (has_failed new other there) → IsTrue (has_failed old other there)
    ⊎ ((other ≡ step) × (there ≡ at))
pair_added old new step at number width is within bits other there now =
    one_pair old new step at other there (nat_lt there old.width) refl within (λ bit set. rw (← is) (bits bit set))
    (rw (← width) now)
