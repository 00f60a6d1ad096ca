-- The automata of one state.
use Rattle.hc_regset.proofs.Common.{◌≡◌, ℕ, ◌+◌, ◌*◌, ◌<◌, Bool, false, List, [], ◌∷◌}
use Rattle.hc_regset.proofs.Common.{replicate, slice_index, slice_index_or, sym, refl, ap, ◌∙◌, subst, arith}
use Rattle.hc_regset.proofs.Common.{Accepts}
use Rattle.std.proofs.lemmas.List.{get_or-replicate}
use Rattle.hc_dfa.specs.Automata.{Automaton, IsTable, accepts, run}
use Rattle.hc_dfa.specs.Texts.{IsText}

abbrev zeros : List ℕ
zeros = replicate 256 0

abbrev constant : Bool → Automaton
constant answer = record { next = zeros; finals = answer ∷ [] }

entry : (k : ℕ) → k < 256 → slice_index zeros k ≡ 0
entry k below = get_or-replicate 256 k 0 0 below

pub is_table : (answer : Bool) → IsTable zeros (answer ∷ [])
is_table answer =
    record {
      some = omega arith;
      few = omega arith;
      whole = refl;
      within = λ k below. omega (arith, entry k (omega arith));
    }

stays : (answer : Bool) (text : List ℕ) → IsText text → run (constant answer) 0 text ≡ 0
stays answer [] bytes = refl
stays answer (b ∷ bs) bytes =
    ap (λ state. run (constant answer) state bs) (let e : 256 * 0 + b ≡ b = omega arith in rw e (entry b bytes.0))
    ∙ stays answer bs bytes.1

answers : (answer : Bool) → Accepts (constant answer) (λ text. answer)
unfolding accepts
answers answer text bytes = ap (λ state. slice_index_or (answer ∷ []) state false) (stays answer text bytes)

pub constant_accepts : (answer : Bool) (made : Automaton) → made ≡ constant answer
    → Accepts made (λ text. answer)
constant_accepts answer made e = subst (λ a. Accepts a (λ text. answer)) (sym e) (answers answer)
