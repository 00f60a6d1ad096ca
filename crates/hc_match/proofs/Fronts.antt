-- Fronts of texts in which each byte meets a test.
use Rattle.hc_match.proofs.Common.{◌≡◌, ◌-◌, ◌<◌, ℕ, Bool, true, false, List, Option, Some, None}
use Rattle.hc_match.proofs.Common.{length, get_or, unwrap_or, inl, inr, lt-ltb, le-ltb, refl, ap, sym, ◌∙◌, arith}
use Rattle.hc_match.proofs.Common.{eqb-true, has_byte}
use Rattle.std.specs.Prelude.{◌^◌, ◌==◌, ◌&&◌, not}
use Rattle.std.specs.List.{position, prefix_len}
use Rattle.std.proofs.Math.Bool.{not-not}
use Rattle.std.proofs.lemmas.Bool.{and_parts, cases_lt, false_from_ne_true, not-false, not_from_false}
use Rattle.std.proofs.lemmas.List.Sums.{prefix_len_is, prefix_len_passes, prefix_len_stops, prefix_len-le-length}
use Rattle.std.proofs.lemmas.Nat.Bits.{bit_at_ones}
use Rattle.memchr.specs.Find.{IsFirstByte}
use Rattle.hc_pattern.specs.declared.set.ByteSet.{ByteSet}

-- Tests that agree on the bytes of a text have the same front.
pub same_front : (test other : ℕ → Bool) (text : List ℕ)
    → ((place : ℕ) → place < length text → test (get_or text place 0) ≡ other (get_or text place 0))
    → prefix_len test text ≡ prefix_len other text
same_front test other text same =
    let most = prefix_len-le-length other text in
    prefix_len_is test text (prefix_len other text) 0 most
    (λ place less. same place (omega (arith, less, most)) ∙ prefix_len_passes other text place 0 less)
    (λ less. same (prefix_len other text) less ∙ prefix_len_stops other text 0 less)

pub all_fit : (test : ℕ → Bool) (text : List ℕ)
    → ((place : ℕ) → place < length text → test (get_or text place 0) ≡ true)
    → length text ≡ prefix_len test text
all_fit test text fit =
    sym (prefix_len_is test text (length text) 0 (omega arith) fit (λ less. absurd (omega (arith, less))))

-- What a search for a byte finds ends the front of the others.
pub found_ends : (test : ℕ → Bool) (text : List ℕ) (found : Option ℕ) → IsFirstByte test text found
    → unwrap_or found (length text) ≡ prefix_len (λ c. not (test c)) text
found_ends test text None nowhere =
    all_fit (λ c. not (test c)) text
    (λ place less. not_from_false _ (false_from_ne_true _ (nowhere place (omega arith) less)))
found_ends test text (Some place) first =
    sym (prefix_len_is (λ c. not (test c)) text place 0 (let inside = first.0.high in omega (arith, inside))
    (λ other less. not_from_false _ (false_from_ne_true _ (first.0.before other (omega arith) less)))
    (λ less. ap not first.1))

-- The same for a search for a byte that fails the test.
pub other_ends : (test : ℕ → Bool) (text : List ℕ) (found : Option ℕ)
    → found ≡ position (λ c. not (test c)) text → unwrap_or found (length text) ≡ prefix_len test text
other_ends test text found is =
    let failing = λ (c : ℕ). not (not (test c)) in let most = prefix_len-le-length failing text in
    let same = same_front failing test text (λ place less. not-not _) in
    elim (cases_lt (prefix_len failing text) (length text)) [
      | inl less ↦ rw (is, lt-ltb (prefix_len failing text) (length text) less) same
      | inr past ↦ rw (is, le-ltb (prefix_len failing text) (length text) past) (omega (arith, most, past, same))
    ]

-- Two sets that don't differ in a half have the same bytes.
pub same_sets : (set other : ByteSet) → not ((set.low == other.low) && (set.high == other.high)) ≡ false
    → (byte : ℕ) → has_byte set byte ≡ has_byte other byte
same_sets set other same byte = let halves = and_parts _ _ (not-false _ same) in
    rw (eqb-true set.low other.low halves.0, eqb-true set.high other.high halves.1) refl

pub full_has : (set : ByteSet) → set.low ≡ 2 ^ 128 - 1 → set.high ≡ 2 ^ 128 - 1 → (byte : ℕ) → byte < 256
    → has_byte set byte ≡ true
full_has set low high byte within =
    elim (cases_lt byte 128) [
      | inl below ↦ rw (lt-ltb byte 128 below, low) (ap (λ bit. bit == 1) (bit_at_ones 128 byte below))
      | inr past ↦ rw (le-ltb byte 128 past, high)
          (ap (λ bit. bit == 1) (bit_at_ones 128 (byte - 128) (omega (arith, within, past))))
    ]
