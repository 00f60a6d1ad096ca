-- To which cell a branch leads.
use Rattle.hc_cert.proofs.Common.{◌≡◌, ◌∙◌, inl, inr, ℕ, List, [], ◌∷◌, Bool, true, false, ◌&&◌, not, Option, Some}
use Rattle.hc_cert.proofs.Common.{None}
use Rattle.hc_cert.proofs.Common.{refl, sym, ap, subst, Sets, holds, IsText, TextSet, Cut}
use Rattle.hc_cert.proofs.Common.{NamedCell}
use Rattle.hc_cert.proofs.Common.{cell_of, Slot, Tied}
use Rattle.std.proofs.lemmas.Bool.{false≢true}
use Rattle.hc_cells.specs.Cells.{IsFirstOutside, IsWithin as IsWithinSets}
use Rattle.hc_plan.proofs.Common.{and_both, and_left, and_right}
use Rattle.hc_plan.proofs.Made.{is_text, text_is}
use Rattle.hc_abs_view.specs.Seen.{IsAnswer}
use Rattle.hc_cert.specs.Cells.{Belongs, IsOutside, IsWithin, Lacks, LiesIn, cell_in, same_cut}
use Rattle.hc_cert.specs.Coded.{IsReady}

-- What a slot may have of bytes.
cell_from : (sets : Sets) (slot : Slot) (text : List ℕ) → IsText text → holds sets slot text ≡ true
    → cell_of sets slot text ≡ true
cell_from sets slot text bytes is = and_both (text_is text bytes) is

cell_at : (sets : Sets) (slot : Slot) (text : List ℕ) → IsText text → cell_of sets slot text ≡ holds sets slot text
cell_at sets slot text bytes = ap (λ of. of && holds sets slot text) (text_is text bytes)

module _ (states : Sets) (own : NamedCell) (tied : Tied) (ready : IsReady own tied) where
  in_cell : (slot : Slot) (text : List ℕ) → cell_of tied.cell slot text ≡ cell_in own slot text
  in_cell slot text = ap (λ cell. cell slot text) ready.cell

  pub within_from : IsWithinSets states tied.cell → IsWithin (cell_of states) own
  within_from within slot text is =
      let bytes = is_text text (and_left _ (holds states slot text) is) in
      sym (in_cell slot text)
      ∙ cell_from tied.cell slot text bytes (within slot text bytes (and_right _ (holds states slot text) is))

  outside_at : (slot : Slot) (text : List ℕ) → IsText text
      → (holds states slot text && not (holds tied.cell slot text))
      ≡ (cell_of states slot text && not (cell_in own slot text))
  outside_at slot text bytes =
      sym (ap (λ is. is && not (holds tied.cell slot text)) (cell_at states slot text bytes))
      ∙ ap (λ is. cell_of states slot text && not is) (sym (cell_at tied.cell slot text bytes) ∙ in_cell slot text)

  pub outside_is : (slot : Slot) (text : List ℕ) → IsFirstOutside states tied.cell slot text
      → IsOutside (cell_of states) own text
  outside_is slot text is = record {
    slot = slot;
    least = record {
      bytes = is.least.bytes;
      member = sym (outside_at slot text is.least.bytes) ∙ is.least.member;
      first = λ other bytes held. is.least.first other bytes (outside_at slot other bytes ∙ held);
    };
    before = λ other less text held.
        let bytes = is_text text (and_left _ (holds states other text) held) in
        sym (in_cell other text)
        ∙ cell_from tied.cell other text bytes
        (is.before other less text bytes (and_right _ (holds states other text) held));
  }

  pub not_within : (slot : Slot) (text : List ℕ) → IsFirstOutside states tied.cell slot text
      → IsWithin (cell_of states) own → ⊥
  not_within slot text is within =
      let held = sym (outside_at slot text is.least.bytes) ∙ is.least.member in
      false≢true (ap not (sym (within slot text (and_left _ _ held))) ∙ and_right (cell_of states slot text) _ held)

-- ---- the answer

pub lies_answer : (states : Slot → TextSet) (at : Cut) (own : NamedCell) (is : Bool) → same_cut own.at at ≡ true
    → IsAnswer (IsWithin states own) is → IsAnswer (LiesIn states at own) is
lies_answer states at own true same within = record { cut = same; within = within }
lies_answer states at own false same none = λ lies. none lies.within

-- ---- the first of the cells

module _ (states : Slot → TextSet) (at : Cut) where
  pub lies_here : (own : NamedCell) (cells : List NamedCell) → LiesIn states at own
      → Belongs states at (own ∷ cells) (Some own)
  lies_here own cells lies = inl (lies, refl)

  -- They belong to one cell at most.
  pub belongs_one : (cells : List NamedCell) (one other : Option NamedCell) → Belongs states at cells one
      → Belongs states at cells other → one ≡ other
  belongs_one [] one other is are = is ∙ sym are
  belongs_one (own ∷ cells) one other (inl is) (inl are) = is.1 ∙ sym are.1
  belongs_one (own ∷ cells) one other (inl is) (inr none) = absurd (none.0 is.0)
  belongs_one (own ∷ cells) one other (inr none) (inl are) = absurd (none.0 are.0)
  belongs_one (own ∷ cells) one other (inr is) (inr are) = belongs_one cells one other is.1 are.1

  pub none_within : (own : NamedCell) (cells : List NamedCell) → Belongs states at (own ∷ cells) None
      → same_cut own.at at ≡ true → IsWithin states own → ⊥
  none_within own cells (inl is) same within = some_none own is.1
    where
      some_none : (own : NamedCell) → None ≡ Some own → ⊥
      some_none own is = let e = is in cc
  none_within own cells (inr none) same within = none.0 (record { cut = same; within = within })

  pub none_behind : (own : NamedCell) (cells : List NamedCell) → Belongs states at (own ∷ cells) None
      → Belongs states at cells None
  none_behind own cells (inl is) = absurd (let e = is.1 in cc)
  none_behind own cells (inr none) = none.1

  abbrev by_cut : NamedCell → List NamedCell → List ℕ → Bool → Type 0
  by_cut own cells text same = elim same [
    | true ↦ IsOutside states own text
    | false ↦ Lacks states at cells text
  ]

  pub lacks_here : (own : NamedCell) (cells : List NamedCell) (text : List ℕ) → same_cut own.at at ≡ true
      → IsOutside states own text → Lacks states at (own ∷ cells) text
  lacks_here own cells text same is = subst (by_cut own cells text) (sym same) is

  pub lacks_behind : (own : NamedCell) (cells : List NamedCell) (text : List ℕ) → same_cut own.at at ≡ false
      → Lacks states at cells text → Lacks states at (own ∷ cells) text
  lacks_behind own cells text same is = subst (by_cut own cells text) (sym same) is
