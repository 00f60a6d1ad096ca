-- The automaton of one text.
use Rattle.hc_dfa.proofs.Common.{◌≡◌, ℕ, ◌+◌, ◌<◌, ◌≤◌, ◌⊎◌, ◌==◌, nat_eq, List, []}
use Rattle.hc_dfa.proofs.Common.{◌∷◌, length, drop, slice_index, slice_set, length-set, get_or-set_same}
use Rattle.hc_dfa.proofs.Common.{get_or-set_other, false, refl, ◌∙◌, ap, sym, inl, inr, arith, drop-cons, add-one}
use Rattle.hc_dfa.proofs.Common.{pointwise, Automaton, next_state, accepts_from, accepts, Accepts, single, single_step}
use Rattle.hc_dfa.proofs.Common.{IsText, Classing, IsAsFine}
use Rattle.hc_dfa.specs.Singles.{AreOwn}
use Rattle.hc_dfa.specs.Tabled.{IsTabled, TellsAll}
use Rattle.std.proofs.lemmas.Bool.Decides.{nat_tests}
use Rattle.std.proofs.lemmas.Bool.{cases_eq, cases_lt, eq-eqb, eqb-true, false_from_ne_true}
use Rattle.std.proofs.Math.ListN.{drop_of_length-le}

misses : (text : List ℕ) (state byte : ℕ) → (byte ≡ slice_index text state → ⊥)
    → single_step text state byte ≡ length text + 1
misses text state byte other = grind (arith, nat_tests)

module _ (text : List ℕ) (a : Automaton)
    (is : IsTabled (length text + 2) (single_step text) (λ state. state == length text) a) where
  -- The last state accepts nothing.
  other_text : (more : List ℕ) → IsText more → accepts_from a (length text + 1) more ≡ false
  other_text [] bytes = is.finals (length text + 1) (omega arith) ∙ grind (arith, nat_tests)
  other_text (byte ∷ more) bytes = rw (stays byte bytes.0) (other_text more bytes.1)
    where
      stays : (b : ℕ) → b < 256 → next_state a (length text + 1) b ≡ length text + 1
      stays b below = is.steps (length text + 1) b (omega arith) below ∙ grind (arith, nat_tests)

  place : (state : ℕ) → state ≤ length text → (state < length text) ⊎ (state ≡ length text)
  place state s = grind arith

  reads : (state byte : ℕ) → state < length text → byte ≡ slice_index text state → single_step text state byte
      ≡ state + 1
  reads state byte less same = grind (arith, nat_tests)

  ends : (state byte : ℕ) → state ≡ length text → single_step text state byte ≡ length text + 1
  ends state byte e = grind (arith, nat_tests)

  -- A state accepts what is left of the text.
  rest_of_text : (state : ℕ) (more : List ℕ) → state ≤ length text → IsText more → accepts_from a state more
      ≡ pointwise nat_eq more (drop state text)
  rest_of_text state [] s bytes =
      elim (place state s) [
        | inl less ↦ rw (drop-cons text state 0 less) (is.finals state (omega arith) ∙ grind (arith, nat_tests))
        | inr e ↦ rw (drop_of_length-le text {i = state} (omega arith))
            (is.finals state (omega arith) ∙ grind (arith, nat_tests))
      ]
  rest_of_text state (byte ∷ more) s bytes =
      elim (place state s) [
        | inl less ↦ rw (drop-cons text state 0 less) (elim (cases_eq byte (slice_index text state)) [
          | inl same ↦ ap (λ (x : ℕ). accepts_from a x more)
              (is.steps state byte (omega arith) bytes.0 ∙ reads state byte less same)
              ∙ (rest_of_text (state + 1) more (omega arith) bytes.1
              ∙ rw (add-one, eq-eqb byte (slice_index text state) same) refl)
          | inr other ↦ ap (λ (x : ℕ). accepts_from a x more)
              (is.steps state byte (omega arith) bytes.0 ∙ misses text state byte other)
              ∙ (other_text more bytes.1
              ∙ rw (false_from_ne_true (nat_eq byte (slice_index text state))
              (λ t. other (eqb-true byte (slice_index text state) t))) refl)
        ])
        | inr e ↦ rw (drop_of_length-le text {i = state} (omega arith))
            (ap (λ (x : ℕ). accepts_from a x more) (is.steps state byte (omega arith) bytes.0 ∙ ends state byte e)
            ∙ other_text more bytes.1)
      ]

  pub single_accepts : Accepts a (single text)
  unfolding accepts
  single_accepts more bytes = rest_of_text 0 more (omega arith) bytes

-- Bytes of one class lead on alike.
pub alike : (text numbers : List ℕ) (c : Classing) → AreOwn text (length text) numbers → IsAsFine c numbers
    → TellsAll c (length text + 2) (single_step text)
alike text numbers c own fine state b d s bb db same =
    let e = fine b d bb db same in
    elim (own.bytes b bb) [
      | inl none ↦ outside b none ∙ sym (outside d (sym e ∙ none))
      | inr some ↦
          let one : b ≡ d = elim (own.bytes d db) [ inl none ↦ absurd (omega arith) | inr other ↦ omega arith ] in
          ap (single_step text state) one
    ]
  where
    outside : (byte : ℕ) → slice_index numbers byte ≡ 0 → single_step text state byte ≡ length text + 1
    outside byte none =
        elim (cases_lt state (length text)) [
          | inl less ↦ misses text state byte
              (λ e. let there = own.each state less in let f = ap (λ x. slice_index numbers x) e in omega arith)
          | inr past ↦ grind (arith, nat_tests)
        ]

pub own_more : (text numbers : List ℕ) (count : ℕ) → AreOwn text count numbers → slice_index text count < 256
    → AreOwn text (count + 1) (slice_set numbers (slice_index text count) (slice_index text count + 1))
own_more text numbers count own below = record {
  len = length-set numbers new (new + 1) ∙ own.len;
  bytes = λ byte b. elim (at byte) [
    | inl here ↦ inr (here.1 ∙ ap (λ x. x + 1) (sym here.0))
    | inr old ↦ rw old.1 (own.bytes byte b)
  ];
  each = λ place b. elim (at (slice_index text place)) [
    | inl here ↦ here.1 ∙ ap (λ x. x + 1) (sym here.0)
    | inr old ↦ old.1 ∙ own.each place (before place b old.0)
  ];
}
  where
    new : ℕ
    new = slice_index text count

    later : List ℕ
    later = slice_set numbers new (new + 1)

    at : (byte : ℕ) → ((byte ≡ new) × (slice_index later byte ≡ new + 1))
        ⊎ ((byte ≡ new → ⊥) × (slice_index later byte ≡ slice_index numbers byte))
    at byte = elim (cases_eq byte new) [
      | inl e ↦ inl (e, rw e (get_or-set_same numbers new (new + 1) 0 (rw own.len below)))
      | inr isnt ↦ inr (isnt, get_or-set_other numbers new byte (new + 1) 0 isnt)
    ]

    before : (place : ℕ) → place < count + 1 → (slice_index text place ≡ new → ⊥) → place < count
    before place b isnt =
        elim (cases_lt place count) [
          | inl less ↦ less
          | inr past ↦ absurd (isnt (ap (λ k. slice_index text k) (let e : place ≡ count = omega arith in e)))
        ]
