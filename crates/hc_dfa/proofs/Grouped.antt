-- Classes of bytes by their numbers.
use Rattle.hc_dfa.proofs.Common.{◌≡◌, ℕ, ◌+◌, ◌<◌, ◌≤◌, ◌⊎◌, inl, inr, List, [], ◌∷◌}
use Rattle.hc_dfa.proofs.Common.{◌++◌, length, length-append, slice_index, sym, ◌∙◌, ap, arith, subst}
use Rattle.hc_dfa.proofs.Common.{get_or_append_left, get_or-append_seam, Classing, class_of, first_of, class_count}
use Rattle.hc_dfa.proofs.Common.{AreClassesBelow}

-- The classes of the bytes below the bound, where those with one number are in one class.
pub record IsGrouping (numbers : List ℕ) (bound : ℕ) (c : Classing) : Type 0 where
  pub classes : AreClassesBelow bound c
  pub same : (byte : ℕ) → byte < bound → slice_index numbers (first_of c (class_of c byte))
      ≡ slice_index numbers byte

-- Whether a place of a longer list is one of the list or the last.
place : (xs : List ℕ) (x k : ℕ) → k < length (xs ++ x ∷ []) → (k < length xs) ⊎ (k ≡ length xs)
place xs x k below = let l = length-append xs (x ∷ []) in grind arith

pub old_item : (xs : List ℕ) (x k : ℕ) → k < length xs → slice_index (xs ++ x ∷ []) k ≡ slice_index xs k
old_item xs x k below = get_or_append_left xs (x ∷ []) 0 k below

pub new_item : (xs : List ℕ) (x : ℕ) → slice_index (xs ++ x ∷ []) (length xs) ≡ x
new_item xs x = get_or-append_seam xs x [] 0

-- A byte with a class of its own.
pub grouped_new : (numbers : List ℕ) (bound : ℕ) (c : Classing) → IsGrouping numbers bound c
    → IsGrouping numbers (bound + 1)
    (record { classes = c.classes ++ class_count c ∷ []; firsts = c.firsts ++ bound ∷ [] })
grouped_new numbers bound c is = record {
  classes = record {
    len = (let l = length-append c.classes (class_count c ∷ []) in let k = is.classes.len in omega arith);
    few = (let l = length-append c.firsts (bound ∷ []) in let f = is.classes.few in omega arith);
    within = λ byte below. at byte below (λ k. k < length firsts)
        (λ b. (let w = is.classes.within byte b in let l = length-append c.firsts (bound ∷ []) in omega arith))
        (λ e. (let l = length-append c.firsts (bound ∷ []) in omega arith));
    least = λ byte below. at byte below (λ k. slice_index firsts k ≤ byte)
        (λ b. rw (old_item c.firsts bound (class_of c byte) (is.classes.within byte b)) (is.classes.least byte b))
        (λ e. (let n = new_item c.firsts bound in omega arith));
    own = λ k below. elim (place c.firsts bound k below) [
      | inl b ↦ rw (old_item c.firsts bound k b)
          (old_item c.classes (class_count c) (first_of c k) (let f = is.classes.below k b in let l = is.classes.len in
          omega arith) ∙ is.classes.own k b)
      | inr e ↦ rw (e, new_item c.firsts bound) (ap (λ k. slice_index classes k) (sym is.classes.len)
          ∙ new_item c.classes (class_count c))
    ];
    below = λ k below. elim (place c.firsts bound k below) [
      | inl b ↦ (let o = old_item c.firsts bound k b in let f = is.classes.below k b in omega arith)
      | inr e ↦ rw (e, new_item c.firsts bound) (omega arith)
    ];
    order = λ k later less below. elim (place c.firsts bound later below) [
      | inl b ↦ rw (old_item c.firsts bound later b, old_item c.firsts bound k (omega arith))
          (is.classes.order k later less b)
      | inr e ↦ rw (e, new_item c.firsts bound, old_item c.firsts bound k (omega arith))
          (is.classes.below k (omega arith))
    ];
  };
  same = λ byte below. at byte below (λ k. slice_index numbers (slice_index firsts k) ≡ slice_index numbers byte)
      (λ b. ap (λ k. slice_index numbers k) (old_item c.firsts bound (class_of c byte) (is.classes.within byte b))
      ∙ is.same byte b)
      (λ e. ap (λ k. slice_index numbers k) (new_item c.firsts bound ∙ sym e));
}
  where
    classes : List ℕ
    classes = c.classes ++ class_count c ∷ []

    firsts : List ℕ
    firsts = c.firsts ++ bound ∷ []

    at : (byte : ℕ) → byte < bound + 1 → (P : ℕ → Type 0) → (byte < bound → P (class_of c byte))
        → (byte ≡ bound → P (class_count c))
        → P (slice_index (c.classes ++ class_count c ∷ []) byte)
    at byte below P early last =
        let len = is.classes.len in
        let cases : (byte < bound) ⊎ (byte ≡ bound) = grind arith in
        elim cases [
          | inl b ↦ subst P (sym (old_item c.classes (class_count c) byte (omega arith))) (early b)
          | inr e ↦ subst P
              (sym (ap (λ k. slice_index (c.classes ++ class_count c ∷ []) k) (e ∙ sym len)
              ∙ new_item c.classes (class_count c))) (last e)
        ]
