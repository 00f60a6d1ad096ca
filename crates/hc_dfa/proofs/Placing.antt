-- The automaton of the texts that stand between others.
use Rattle.hc_dfa.proofs.Common.{◌≡◌, ℕ, ◌+◌, ◌-◌, ◌<◌, List, [], ◌∷◌, ◌++◌, drop, refl}
use Rattle.hc_dfa.proofs.Common.{ap, sym, ◌∙◌, suc, inl, inr, arith, Automaton, states, next_state, is_final}
use Rattle.hc_dfa.proofs.Common.{accepts_from, run, accepts, Accepts, IsText}
use Rattle.hc_dfa.specs.Placings.{between, origin, placed_step}
use Rattle.hc_dfa.specs.Tabled.{IsTabled}
use Rattle.std.proofs.Math.ListN.{drop_of_length-le}
use Rattle.std.proofs.lemmas.Bool.{cases_lt}
use Rattle.std.proofs.lemmas.Bool.Decides.{nat_tests}
use Rattle.hc_dfa.proofs.Runs.{IsAutomaton, next_within}

run-append : (a : Automaton) (from : ℕ) (xs ys : List ℕ) → run a from (xs ++ ys) ≡ run a (run a from xs) ys
run-append a from [] ys = refl
run-append a from (x ∷ xs) ys = run-append a (next_state a from x) xs ys

module _ (a : Automaton) (table : IsAutomaton a) (entry skip : ℕ) (after : List ℕ) (made : Automaton)
    (start : entry < states a)
    (is : IsTabled (skip + 1 + states a) (placed_step a entry skip)
    (λ s. accepts_from a (origin entry skip s) after) made) where
  -- A state accepts what the set's state does behind the bytes that are still to be left out.
  placed : (state : ℕ) (text : List ℕ) → state < skip + 1 + states a → IsText text
      → accepts_from made state text
      ≡ accepts_from a (run a (origin entry skip state) (drop (skip - state) text)) after
  placed state [] s bytes =
      is.finals state s
      ∙ sym (ap (λ rest. accepts_from a (run a (origin entry skip state) rest) after)
      (drop_of_length-le [] {i = skip - state} (omega arith)))
  placed state (byte ∷ text) s bytes =
      elim (cases_lt state skip) [
        | inl less ↦
            let leads : placed_step a entry skip state byte ≡ state + 1 = grind (arith, nat_tests) in
            let same : origin entry skip (state + 1) ≡ origin entry skip state = grind (arith, nat_tests) in
            let later : suc (skip - (state + 1)) ≡ skip - state = omega arith in
            rw (is.steps state byte s bytes.0, leads, ← later)
            (rw same at (placed (state + 1) text (omega arith) bytes.1))
        | inr reached ↦
            let on : ℕ = next_state a (origin entry skip state) byte in
            let from : origin entry skip state < states a = grind (arith, nat_tests) in
            let within = next_within a table (origin entry skip state) byte from bytes.0 in
            let leads : placed_step a entry skip state byte ≡ skip + 1 + on = grind (arith, nat_tests) in
            let same : origin entry skip (skip + 1 + on) ≡ on = grind (arith, nat_tests) in
            let none : skip - state ≡ 0 = omega arith in
            let left : skip - (skip + 1 + on) ≡ 0 = omega arith in
            rw (is.steps state byte s bytes.0, leads, none)
            (rw (same, left) at (placed (skip + 1 + on) text (omega arith) bytes.1))
      ]

  pub placed_accepts : (before : List ℕ) → entry ≡ run a 0 before
      → Accepts made (between before skip after (accepts a))
  unfolding accepts
  placed_accepts before entered text bytes =
      let whole : skip - 0 ≡ skip = omega arith in
      let first : origin entry skip 0 ≡ run a 0 before = grind (arith, nat_tests, entered) in
      (rw (whole, first) at (placed 0 text (omega arith) bytes))
      ∙ sym (ap (is_final a) (run-append a 0 before (drop skip text ++ after)
      ∙ run-append a (run a 0 before) (drop skip text) after))
