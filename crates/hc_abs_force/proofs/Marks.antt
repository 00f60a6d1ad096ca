-- The candidates that are kept, one after the other.
use Rattle.std.proofs.Common.{◌≡◌, ◌∙◌, List, [], ◌∷◌, ◌++◌, map, Bool, true, false, refl, sym, ap, append_assoc, append-nil}
use Rattle.hc_merge.specs.Candidates.{Candidate}
use Rattle.hc_abs_force.specs.Forcing.{marked}

pub map_more : {A B : Type 0} (f : A → B) (items : List A) (item : A)
    → map f (items ++ item ∷ []) ≡ map f items ++ f item ∷ []
map_more f [] item = refl
map_more f (first ∷ items) item = ap (λ rest. f first ∷ rest) (map_more f items item)

none_left : (marks : List Bool) → marked marks [] ≡ []
none_left [] = refl
none_left (is ∷ marks) = refl

module _ (marks left : List Bool) (all kept rest : List Candidate)
    (so_far : marked marks all ≡ kept ++ marked left rest) where
  pub no_marks : left ≡ [] → kept ≡ marked marks all
  no_marks none = sym (so_far ∙ ap (λ left. kept ++ marked left rest) none ∙ append-nil kept)

  pub no_more : rest ≡ [] → kept ≡ marked marks all
  no_more none =
      sym (so_far ∙ ap (λ rest. kept ++ marked left rest) none ∙ ap (λ later. kept ++ later) (none_left left)
      ∙ append-nil kept)

  module _ (mark : Bool) (more : List Bool) (candidate : Candidate) (later : List Candidate) (is : left ≡ mark ∷ more)
      (next : rest ≡ candidate ∷ later) where
    goes_on : marked marks all ≡ kept ++ marked (mark ∷ more) (candidate ∷ later)
    goes_on =
        so_far ∙ ap (λ left. kept ++ marked left rest) is ∙ ap (λ rest. kept ++ marked (mark ∷ more) rest) next

    pub one_left_out : mark ≡ false → marked marks all ≡ kept ++ marked more later
    one_left_out isnt = goes_on ∙ ap (λ mark. kept ++ marked (mark ∷ more) (candidate ∷ later)) isnt

    pub one_kept : mark ≡ true → (after : List Candidate) → after ≡ kept ++ candidate ∷ []
        → marked marks all ≡ after ++ marked more later
    one_kept held after same =
        goes_on ∙ ap (λ mark. kept ++ marked (mark ∷ more) (candidate ∷ later)) held
        ∙ sym (append_assoc kept (candidate ∷ []) (marked more later))
        ∙ ap (λ front. front ++ marked more later) (sym same)
