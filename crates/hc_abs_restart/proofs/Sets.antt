-- What the automata of slots and of single texts say.
use Rattle.hc_abs_restart.proofs.Common.{◌≡◌, ◌∙◌, ℕ, List, [], ◌++◌, Bool, true, false, ◌||◌, refl, sym}
use Rattle.hc_abs_restart.proofs.Common.{ap, subst, append-nil, fun_ext, bytes_eq, Automaton}
use Rattle.hc_abs_restart.proofs.Common.{accepts, Accepts, IsText, TextSet, and_both, and_left, and_right, is_text}
use Rattle.hc_abs_restart.proofs.Common.{text_is, cell_of, set_in, Slot, any, of_bytes}
use Rattle.std.specs.Cmp.Lexicographic.{bytes_decides}
use Rattle.hc_cells.specs.Cells.{Sets, holds}
use Rattle.hc_dfa.specs.Singles.{single}
use Rattle.hc_plan.specs.Hands.{parts_of}
use Rattle.hc_plan.specs.States.{Has, whole}
use Rattle.hc_plan.specs.Texts.{IsSetOf}
use Rattle.hc_abs_rw.specs.Drafts.{slot_alone}

-- Two tests that hold of the same are equal.
same_bool : (one other : Bool) → (one ≡ true → other ≡ true) → (other ≡ true → one ≡ true) → one ≡ other
same_bool true other to from = sym (to refl)
same_bool false true to from = from refl
same_bool false false to from = refl

pub same_set : (made : Automaton) (set : TextSet) → Accepts made set → set_in made ≡ of_bytes set
same_set made set is = fun_ext (λ x. same_bool (set_in made x) (of_bytes set x)
    (λ both. and_both (and_left _ (accepts made x) both)
    (sym (is x (is_text x (and_left _ (accepts made x) both))) ∙ and_right _ (accepts made x) both))
    (λ both. and_both (and_left _ (set x) both)
    (is x (is_text x (and_left _ (set x) both)) ∙ and_right _ (set x) both)))

pub slot_set : (sets : Sets) (slot : Slot) (made : Automaton) → Accepts made (holds sets slot)
    → set_in made ≡ cell_of sets slot
slot_set sets slot made is = same_set made (holds sets slot) is

-- The text alone.
pub text_set : (own : List ℕ) (made : Automaton) → IsText own → Accepts made (single own)
    → set_in made ≡ bytes_eq own
text_set own made bytes is = same_set made (single own) is ∙ fun_ext (λ x. same_bool (of_bytes (single own) x) (bytes_eq own x)
    (λ both. (bytes_decides own x).1 (sym ((bytes_decides x own).0 (and_right _ (single own x) both))))
    (λ same.
    let equal : own ≡ x = (bytes_decides own x).0 same in
    and_both (text_is x (subst IsText equal bytes)) ((bytes_decides x own).1 (sym equal))))

-- The value of a slot in hand.
pub slot_has : (sets : Sets) (slot : Slot) (texts : Automaton) (cell : Slot → TextSet) → cell ≡ cell_of sets
    → Accepts texts (holds sets slot) → IsSetOf (set_in texts) (Has cell (whole (parts_of (slot_alone slot))))
slot_has sets slot texts cell same is x =
    let equal : set_in texts x ≡ cell slot x =
    ap (λ set. set x) (slot_set sets slot texts is) ∙ ap (λ cell. cell slot x) (sym same) in (
      (λ in_set. (x, (x, [], sym (append-nil x), (x, sym equal ∙ in_set, refl), refl), refl, refl)),
      (λ has.
          let parts = has.1 in
          equal ∙ subst (λ x. cell slot x ≡ true)
          (sym (has.3 ∙ parts.2 ∙ (λ i. parts.3.2 i ++ parts.4 i) ∙ append-nil parts.3.0)) parts.3.1),
    )

-- A set of texts of bytes adds none to all of them.
pub any_or : (set : TextSet) → ((x : List ℕ) → set x ≡ true → IsText x) → (x : List ℕ)
    → (of_bytes any x || set x) ≡ of_bytes any x
any_or set bytes x = by (of_bytes any x) (set x) (λ there. and_both (text_is x (bytes x there)) refl)
  where
    by : (all is : Bool) → (is ≡ true → all ≡ true) → (all || is) ≡ all
    by true is within = refl
    by false true within = sym (within refl)
    by false false within = refl
