-- The automaton of the texts of a set behind a text.
use Rattle.hc_dfa.proofs.Common.{◌≡◌, ℕ, ◌+◌, ◌-◌, ◌<◌, ◌≤◌, nat_eq, List, [], ◌∷◌, length, drop}
use Rattle.hc_dfa.proofs.Common.{slice_index, false, refl, ◌∙◌, ap, sym, inl, inr, arith, drop-cons, add-one}
use Rattle.hc_dfa.proofs.Common.{Automaton, states, next_state, accepts_from, accepts, Accepts, IsText}
use Rattle.hc_dfa.proofs.Common.{Classing, IsAsFine, Tells}
use Rattle.hc_dfa.proofs.Runs.{IsAutomaton, next_within}
use Rattle.hc_dfa.specs.Fronts.{IsToldApart, behind_text, fronted_mark, fronted_step}
use Rattle.hc_dfa.specs.Singles.{AreOwn}
use Rattle.hc_dfa.specs.Tabled.{IsTabled, TellsAll}
use Rattle.std.proofs.lemmas.Bool.Decides.{nat_tests}
use Rattle.std.proofs.lemmas.Bool.{cases_eq, cases_lt, eq-eqb, eqb-true, false_from_ne_true}
use Rattle.std.proofs.Math.ListN.{drop_of_length-le}

module _ (front : List ℕ) (a : Automaton) where
  others : (byte : ℕ) → fronted_step front a (length front + states a) byte ≡ length front + states a
  others byte = grind (arith, nat_tests)

  owns : (state byte : ℕ) → state < states a
      → fronted_step front a (length front + state) byte ≡ length front + next_state a state byte
  owns state byte s =
      let from : (length front + state) - length front ≡ state = omega arith in
      let led : fronted_step front a (length front + state) byte
      ≡ length front + next_state a ((length front + state) - length front) byte = grind (arith, nat_tests) in
      led ∙ ap (λ s. length front + next_state a s byte) from

  reads : (state byte : ℕ) → state < length front → slice_index front state ≡ byte
      → fronted_step front a state byte ≡ state + 1
  reads state byte s same = grind (arith, nat_tests)

  misses : (state byte : ℕ) → state < length front → (slice_index front state ≡ byte → ⊥)
      → fronted_step front a state byte ≡ length front + states a
  misses state byte s other = grind (arith, nat_tests)

  -- Bytes of one class lead on alike.
  pub told : (c : Classing) → IsToldApart front c → Tells c a
      → TellsAll c (length front + states a + 1) (fronted_step front a)
  told c apart tells state b d s bb db same =
      elim (cases_lt state (length front)) [
        | inl less ↦ elim (cases_eq (slice_index front state) b) [
          | inl is ↦ ap (fronted_step front a state) (apart b d state bb db same less is)
          | inr isnt ↦ misses state b less isnt
              ∙ sym (misses state d less (λ is. isnt (is ∙ apart d b state db bb (sym same) less is)))
        ]
        | inr past ↦ elim (cases_lt (state - length front) (states a)) [
          | inl less ↦
              let whole : length front + (state - length front) ≡ state = omega arith in
              let at = tells (state - length front) b d less bb db same in
              ap (λ s. fronted_step front a s b) (sym whole) ∙ owns (state - length front) b less
              ∙ ap (λ to. length front + to) at ∙ sym (owns (state - length front) d less)
              ∙ ap (λ s. fronted_step front a s d) whole
          | inr over ↦
              let last : state ≡ length front + states a = omega arith in
              rw last (others b ∙ sym (others d))
        ]
      ]

module _ (front : List ℕ) (a : Automaton) (table : IsAutomaton a) (made : Automaton)
    (is : IsTabled (length front + states a + 1) (fronted_step front a) (fronted_mark front a) made) where
  -- The last state accepts nothing.
  other_text : (more : List ℕ) → IsText more → accepts_from made (length front + states a) more ≡ false
  other_text [] bytes = is.finals (length front + states a) (omega arith) ∙ grind (arith, nat_tests)
  other_text (byte ∷ more) bytes =
      rw (is.steps (length front + states a) byte (omega arith) bytes.0 ∙ others front a byte)
      (other_text more bytes.1)

  -- The set's own states accept what they accept there.
  own_text : (state : ℕ) (more : List ℕ) → state < states a → IsText more
      → accepts_from made (length front + state) more ≡ accepts_from a state more
  own_text state [] s bytes =
      let from : (length front + state) - length front ≡ state = omega arith in
      is.finals (length front + state) (omega arith) ∙ rw from (grind (arith, nat_tests))
  own_text state (byte ∷ more) s bytes =
      rw (is.steps (length front + state) byte (omega arith) bytes.0 ∙ owns front a state byte s)
      (own_text (next_state a state byte) more (next_within a table state byte s bytes.0) bytes.1)

  past_front : (state : ℕ) (more : List ℕ) → length front ≤ state → state ≤ length front → IsText more
      → accepts_from made state more ≡ behind_text (drop state front) (accepts_from a 0) more
  past_front state more past s bytes =
      let here : state ≡ length front + 0 = omega arith in
      rw (drop_of_length-le front {i = state} past, here) (own_text 0 more table.some bytes)

  -- A state of the front accepts what is left of it, and then a text of the set.
  rest_of_front : (state : ℕ) (more : List ℕ) → state ≤ length front → IsText more
      → accepts_from made state more ≡ behind_text (drop state front) (accepts_from a 0) more
  rest_of_front state [] s bytes =
      elim (cases_lt state (length front)) [
        | inl less ↦ rw (drop-cons front state 0 less)
            (is.finals state (omega arith) ∙ grind (arith, nat_tests))
        | inr past ↦ past_front state [] past s bytes
      ]
  rest_of_front state (byte ∷ more) s bytes =
      elim (cases_lt state (length front)) [
        | inl less ↦ rw (drop-cons front state 0 less) (elim (cases_eq byte (slice_index front state)) [
          | inl same ↦ ap (λ (x : ℕ). accepts_from made x more)
              (is.steps state byte (omega arith) bytes.0 ∙ reads front a state byte less (sym same))
              ∙ (rest_of_front (state + 1) more (omega arith) bytes.1
              ∙ rw (add-one, eq-eqb byte (slice_index front state) same) refl)
          | inr other ↦ ap (λ (x : ℕ). accepts_from made x more)
              (is.steps state byte (omega arith) bytes.0 ∙ misses front a state byte less (λ is. other (sym is)))
              ∙ (other_text more bytes.1
              ∙ rw (false_from_ne_true (nat_eq byte (slice_index front state))
              (λ t. other (eqb-true byte (slice_index front state) t))) refl)
        ])
        | inr past ↦ past_front state (byte ∷ more) past s bytes
      ]

  pub fronted_accepts : Accepts made (behind_text front (accepts a))
  unfolding accepts
  fronted_accepts more bytes = rest_of_front 0 more (omega arith) bytes

-- Classes as fine as the numbers of a text's own bytes tell them apart.
pub own_apart : (text numbers : List ℕ) (own c : Classing) → AreOwn text (length text) numbers → IsAsFine own numbers
    → IsAsFine c own.classes → IsToldApart text c
own_apart text numbers own c are fine finer b d place bb db same within is =
    let e = fine b d bb db (finer b d bb db same) in
    let at = are.each place within in
    let of_b : slice_index numbers b ≡ b + 1 = ap (λ x. slice_index numbers x) (sym is) ∙ at ∙ ap (λ x. x + 1) is in
    elim (are.bytes d db) [ inl none ↦ absurd (omega arith) | inr some ↦ omega arith ]
