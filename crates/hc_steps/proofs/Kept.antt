-- Each read that was told is among those that are kept.
use Rattle.hc_steps.proofs.Common.{◌≡◌, ℕ, zero, suc, ◌<◌, List, [], ◌∷◌, length, arith, refl, ap}
use Rattle.hc_steps.proofs.Common.{sym, subst, Contains, slice_index_or, ◌⊎◌, inl, inr, fold, insert_key, Read}
use Rattle.hc_steps.proofs.Common.{each_once, path_of, rank_of, read_cmp}
use mathlib.Core.Logic.{⊎_elim}
use Rattle.std.proofs.lemmas.Map.Lookups.{CmpEqualImpliesEq, exact_bytes, exact_unsigned}
use Rattle.std.specs.Cmp.Lexicographic.{slice_cmp}
use Rattle.std.specs.Ordering.{match_ordering, nat_cmp, ordering_then}
use Rattle.std.specs.declared.cmp.Ordering.{Ordering}
use Rattle.std.specs.declared.cmp.Ordering.TheVariants.{Equal, Greater, Less}
use Rattle.hc_model.specs.declared.read.Read.TheVariants.{KindOf, NamesOf, TextOf}

here : {X : Type 0} (x : X) (xs : List X) → Contains (x ∷ xs) x
here x xs = (0, omega arith, refl)

later : {X : Type 0} (x y : X) (xs : List X) → Contains xs y → Contains (x ∷ xs) y
later x y xs i = (suc i.0, omega (arith, i.1), i.2)

nothing : {X A : Type 0} (y : X) → Contains [] y → A
nothing y i = absurd (omega (arith, i.1))

at_place : {X : Type 0} (x y : X) (xs : List X) (k : ℕ) → k < length (x ∷ xs) → slice_index_or (x ∷ xs) k y
    ≡ y → (x ≡ y) ⊎ Contains xs y
at_place x y xs zero l e = inl e
at_place x y xs (suc k) l e = inr (k, omega (arith, l), e)

first_or_later : {X : Type 0} (x y : X) (xs : List X) → Contains (x ∷ xs) y → (x ≡ y) ⊎ Contains xs y
first_or_later x y xs i = at_place x y xs i.0 i.1 i.2

-- ---- ordered sets

module _ {X : Type 0} (order : X → X → Ordering) (exact : CmpEqualImpliesEq order) where
  has_by : (x z : X) (zs : List X) (o : Ordering) → order x z ≡ o → Contains (insert_key order zs x) x
      → Contains (match_ordering o (x ∷ z ∷ zs) (z ∷ zs) (z ∷ insert_key order zs x)) x
  has_by x z zs Less e h = here x (z ∷ zs)
  has_by x z zs Equal e h = subst (Contains (z ∷ zs)) (sym (exact x z e)) (here z zs)
  has_by x z zs Greater e h = later z x (insert_key order zs x) h

  has : (x : X) (xs : List X) → Contains (insert_key order xs x) x
  has x [] = here x []
  has x (z ∷ zs) = has_by x z zs (order x z) refl (has x zs)

  keeps_by : (x y z : X) (zs : List X) (o : Ordering) → (z ≡ y) ⊎ Contains zs y → Contains (z ∷ zs) y
      → (Contains zs y → Contains (insert_key order zs x) y)
      → Contains (match_ordering o (x ∷ z ∷ zs) (z ∷ zs) (z ∷ insert_key order zs x)) y
  keeps_by x y z zs Less i there h = later x y (z ∷ zs) there
  keeps_by x y z zs Equal i there h = there
  keeps_by x y z zs Greater (inl e) there h =
      subst (Contains (z ∷ insert_key order zs x)) e (here z (insert_key order zs x))
  keeps_by x y z zs Greater (inr i) there h = later z y (insert_key order zs x) (h i)

  keeps : (x y : X) (xs : List X) → Contains xs y → Contains (insert_key order xs x) y
  keeps x y [] i = nothing y i
  keeps x y (z ∷ zs) i = keeps_by x y z zs (order x z) (first_or_later z y zs i) i (keeps x y zs)

  stays : (xs so_far : List X) (y : X) → Contains so_far y → Contains (fold (insert_key order) so_far xs) y
  stays [] so_far y i = i
  stays (x ∷ xs) so_far y i = stays xs (insert_key order so_far x) y (keeps x y so_far i)

  pub kept : (xs so_far : List X) (y : X) → Contains xs y → Contains (fold (insert_key order) so_far xs) y
  kept [] so_far y i = nothing y i
  kept (x ∷ xs) so_far y i = ⊎_elim
      (λ e. subst (Contains (fold (insert_key order) (insert_key order so_far x) xs)) e
      (stays xs (insert_key order so_far x) x (has x so_far)))
      (λ j. kept xs (insert_key order so_far x) y j)
      (first_or_later x y xs i)

-- ---- reads

first_tied : (o p : Ordering) → ordering_then o p ≡ Equal → (o ≡ Equal) × (p ≡ Equal)
first_tied Less p e = absurd (cc e)
first_tied Equal p e = (refl, e)
first_tied Greater p e = absurd (cc e)

-- A read is its path and its rank.
same_read : (a b : Read) → path_of a ≡ path_of b → rank_of a ≡ rank_of b → a ≡ b
same_read (TextOf p) (TextOf q) e f = ap TextOf e
same_read (KindOf p) (KindOf q) e f = ap KindOf e
same_read (NamesOf p) (NamesOf q) e f = ap NamesOf e
same_read (TextOf p) (KindOf q) e f = absurd (omega (arith, f))
same_read (TextOf p) (NamesOf q) e f = absurd (omega (arith, f))
same_read (KindOf p) (TextOf q) e f = absurd (omega (arith, f))
same_read (KindOf p) (NamesOf q) e f = absurd (omega (arith, f))
same_read (NamesOf p) (TextOf q) e f = absurd (omega (arith, f))
same_read (NamesOf p) (KindOf q) e f = absurd (omega (arith, f))

reads_exact : CmpEqualImpliesEq read_cmp
reads_exact a b e =
    let both = first_tied (slice_cmp nat_cmp (path_of a) (path_of b)) (nat_cmp (rank_of a) (rank_of b)) e in
    same_read a b (exact_bytes (path_of a) (path_of b) both.0) (exact_unsigned (rank_of a) (rank_of b) both.1)

pub each_is_kept : (reads : List Read) (read : Read) → Contains reads read → Contains (each_once reads) read
each_is_kept reads read i = kept read_cmp reads_exact reads [] read i
