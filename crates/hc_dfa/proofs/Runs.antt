-- Runs of automata.
use Rattle.hc_dfa.proofs.Common.{◌≡◌, ℕ, ◌+◌, ◌*◌, ◌<◌, List, [], ◌∷◌, Bool, false, refl, sym}
use Rattle.hc_dfa.proofs.Common.{◌∙◌, arith, slice_index, map, not, ap, get_or-map, Automaton, states, next_state}
use Rattle.hc_dfa.proofs.Common.{is_final, accepts_from, accepts, IsTable, Accepts, complement_of, IsText}

abbrev pub IsAutomaton : Automaton → Type 0
IsAutomaton a = IsTable a.next a.finals

pub next_within : (a : Automaton) → IsAutomaton a → (state byte : ℕ) → state < states a → byte < 256
    → next_state a state byte < states a
next_within a is state byte s b = is.within (256 * state + byte) (let w = is.whole in omega arith)

-- Related states stay related along a text, and answer alike in the end.
pub simulated : (a b : Automaton) (answer : Bool → Bool) (Related : ℕ → ℕ → Type 0)
    → ((s t byte : ℕ) → Related s t → byte < 256 → Related (next_state a s byte) (next_state b t byte))
    → ((s t : ℕ) → Related s t → is_final b t ≡ answer (is_final a s))
    → (s t : ℕ) (text : List ℕ) → Related s t → IsText text
    → accepts_from b t text ≡ answer (accepts_from a s text)
simulated a b answer Related step same s t [] r is = same s t r
simulated a b answer Related step same s t (byte ∷ text) r is =
    simulated a b answer Related step same (next_state a s byte) (next_state b t byte) text (step s t byte r is.0) is.1

-- An automaton with the same steps and the opposite finals has the opposite test.
pub complemented : (a made : Automaton) → IsAutomaton a → made.next ≡ a.next → made.finals ≡ map not a.finals
    → Accepts made (complement_of a)
unfolding accepts
complemented a made is next finals text bytes =
    simulated a made not (λ s t. (s ≡ t) × (s < states a))
    (λ s t byte r b. (
      ap (λ row. slice_index row (256 * s + byte)) (sym next)
          ∙ ap (λ x. next_state made x byte) r.0,
      next_within a is s byte r.1 b,
    ))
    (λ s t r. rw (← r.0, finals) (get_or-map not a.finals s false false r.1))
    0 0 text (refl, is.some) bytes
