-- Pieces that a separator joins.
use Rattle.hc_addr.proofs.Common.{◌≡◌, ℕ, ◌<◌, true, false, eqb, List, [], ◌∷◌, ◌++◌, length}
use Rattle.hc_addr.proofs.Common.{None, refl, ap, ◌∙◌, arith, AllByRecursion, join_with_byte, list_any}
use Rattle.hc_addr.proofs.Common.{slice_split, is_colon, begins_with_gap, gap_of, has_colon}
use Rattle.std.proofs.lemmas.List.Elements.{All-from_recursion}
use Rattle.std.proofs.lemmas.List.Folds.{list_any-append}
use Rattle.std.proofs.lemmas.List.Splits.{slice_split_at, slice_split_none}
use Rattle.std.proofs.Math.Bool.{or-true}
use Rattle.hc_base.specs.Bytes.{begins_with, colon}

abbrev pub Lacks : ℕ → List ℕ → Type 0
Lacks c bytes = AllByRecursion (λ b. eqb b c ≡ false) bytes

-- The pieces are those that are joined.
pub split_joined : (c : ℕ) → eqb c c ≡ true → (pieces : List (List ℕ)) → 0 < length pieces
    → AllByRecursion (Lacks c) pieces → slice_split (λ b. eqb b c) (join_with_byte c pieces) ≡ pieces
split_joined c e [] some h = absurd (omega arith)
split_joined c e (x ∷ []) some h =
    slice_split_none (λ b. eqb b c) x (All-from_recursion (λ b. eqb b c ≡ false) x h.0)
split_joined c e (x ∷ y ∷ xs) some h =
    slice_split_at (λ b. eqb b c) x c (join_with_byte c (y ∷ xs))
    (All-from_recursion (λ b. eqb b c ≡ false) x h.0) e
    ∙ ap (λ ps. x ∷ ps) (split_joined c e (y ∷ xs) (omega arith) h.1)

any_lacks : (c : ℕ) (x : List ℕ) → Lacks c x → list_any (λ b. eqb b c) x ≡ false
any_lacks c [] h = refl
any_lacks c (b ∷ bs) h = rw h.0 (any_lacks c bs h.1)

-- Another separator is in no piece and not between them.
pub joined_lacks : (c d : ℕ) → eqb d c ≡ false → (pieces : List (List ℕ)) → AllByRecursion (Lacks c) pieces
    → list_any (λ b. eqb b c) (join_with_byte d pieces) ≡ false
joined_lacks c d e [] h = refl
joined_lacks c d e (x ∷ []) h = any_lacks c x h.0
joined_lacks c d e (x ∷ y ∷ xs) h = list_any-append (λ b. eqb b c) x (d ∷ join_with_byte d (y ∷ xs))
    ∙ (rw (any_lacks c x h.0, e) (joined_lacks c d e (y ∷ xs) h.1))

pub joined_has : (x y : List ℕ) (xs : List (List ℕ)) → has_colon (join_with_byte colon (x ∷ y ∷ xs)) ≡ true
joined_has x y xs = list_any-append is_colon x (colon ∷ join_with_byte colon (y ∷ xs))
    ∙ or-true (list_any is_colon x)

-- A group: it has a digit and no colon.
pub record IsGroup (group : List ℕ) : Type 0 where
  pub some : 0 < length group
  pub lacks : Lacks colon group

no_gap : (b : ℕ) (bs : List ℕ) → is_colon b ≡ false → begins_with_gap (b ∷ bs) ≡ false
no_gap b [] e = refl
no_gap b (c ∷ cs) e = rw e refl

no_gap_colon : (bs : List ℕ) → begins_with colon bs ≡ false → begins_with_gap (colon ∷ bs) ≡ false
no_gap_colon [] e = refl
no_gap_colon (b ∷ bs) e = e

gap_past : (x rest : List ℕ) → Lacks colon x → gap_of rest ≡ None → gap_of (x ++ rest) ≡ None
gap_past [] rest h e = e
gap_past (b ∷ bs) rest h e = rw (no_gap b (bs ++ rest) h.0, gap_past bs rest h.1 e) refl

begins_joined : (x : List ℕ) (xs : List (List ℕ)) → IsGroup x
    → begins_with colon (join_with_byte colon (x ∷ xs)) ≡ false
begins_joined [] xs h = absurd (omega (arith, h.some))
begins_joined (b ∷ bs) [] h = h.lacks.0
begins_joined (b ∷ bs) (y ∷ ys) h = h.lacks.0

gap_within : (x : List ℕ) → Lacks colon x → gap_of x ≡ None
gap_within [] h = refl
gap_within (b ∷ bs) h = rw (no_gap b bs h.0, gap_within bs h.1) refl

-- No two colons stand side by side.
pub gap_joined : (groups : List (List ℕ)) → AllByRecursion IsGroup groups → gap_of (join_with_byte colon groups)
    ≡ None
gap_joined [] h = refl
gap_joined (x ∷ []) h = gap_within x h.0.lacks
gap_joined (x ∷ y ∷ xs) h =
    gap_past x (colon ∷ join_with_byte colon (y ∷ xs)) h.0.lacks
    (rw (no_gap_colon (join_with_byte colon (y ∷ xs)) (begins_joined y xs h.1.0), gap_joined (y ∷ xs) h.1) refl)
