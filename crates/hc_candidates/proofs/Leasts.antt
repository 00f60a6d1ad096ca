-- The least texts of slots.
use Rattle.std.proofs.Common.{◌≡◌, ◌∙◌, ◌++◌, ◌⊎◌, List, [], ◌∷◌, ℕ, Option, None, IsTrue, refl, inl, inr}
use Rattle.std.proofs.Common.{◌<◌, append-nil, append_assoc, arith, ap, length, subst, sym}
use Rattle.std.proofs.lemmas.Bool.Decides.{nat_tests}
use Rattle.hc_cells.specs.Cells.{Sets, holds, of_set}
use Rattle.hc_cells.specs.declared.slot.Slot.TheVariants as slot
use Rattle.hc_dfa.specs.Texts.{IsLeast, IsLeastOf, comes_before}
use Rattle.hc_model.specs.declared.request.Header.{Header}
use Rattle.hc_candidates.specs.Candidates.{AreLeast, header_by}

shorter_first : (text other : List ℕ) → length text < length other → IsTrue (comes_before text other)
shorter_first text other less = grind (arith, nat_tests)

first_of_all : (other : List ℕ) → (other ≡ []) ⊎ IsTrue (comes_before [] other)
first_of_all [] = inl refl
first_of_all (b ∷ other) = inr (shorter_first [] (b ∷ other) (omega arith))

-- Of all texts the empty one is the least.
pub least_of_all : IsLeast (of_set None) []
least_of_all = record { bytes = tt; member = refl; first = λ other bytes is. first_of_all other }

-- The header of the first name stands before the others.
pub least_more : (sets : Sets) (name : List ℕ) (names : List (List ℕ)) (least : Option (List ℕ)) (rest : List Header)
    → IsLeastOf (holds sets (slot.Header name)) least → AreLeast sets names rest
    → AreLeast sets (name ∷ names) (header_by name least ++ rest)
least_more sets name names least rest is are = (least, rest, is, refl, are)

-- One more name is looked at.
pub least_pushed : (sets : Sets) (name : List ℕ) (names left more : List (List ℕ)) (least : Option (List ℕ))
    (headers after rest : List Header) → left ≡ name ∷ more → IsLeastOf (holds sets (slot.Header name)) least
    → after ≡ headers ++ header_by name least
    → ((rest : List Header) → AreLeast sets left rest → AreLeast sets names (headers ++ rest))
    → AreLeast sets more rest → AreLeast sets names (after ++ rest)
least_pushed sets name names left more least headers after rest split is pushed so_far are =
    let own = header_by name least in
    subst (AreLeast sets names) (sym (ap (λ own. own ++ rest) pushed ∙ append_assoc headers own rest))
    (so_far (own ++ rest) (subst (λ left. AreLeast sets left (own ++ rest)) (sym split)
    (least_more sets name more least rest is are)))

-- All names are looked at.
pub least_whole : (sets : Sets) (names left : List (List ℕ)) (headers : List Header) → left ≡ []
    → ((rest : List Header) → AreLeast sets left rest → AreLeast sets names (headers ++ rest))
    → AreLeast sets names headers
least_whole sets names left headers none so_far =
    subst (AreLeast sets names) (append-nil headers)
    (so_far [] (subst (λ left. AreLeast sets left []) (sym none) refl))
