-- Paths in the order of their bytes.
use Rattle.hc_world.proofs.Common.{◌≡◌, ℕ, ◌<◌, true, false, List, [], ◌∷◌, ◌++◌, length, take}
use Rattle.hc_world.proofs.Common.{nat_eq, Some, refl, sym, ap, ◌∙◌, inl, inr, ◌⊎◌, append-nil, arith}
use Rattle.hc_world.proofs.Common.{⊎_elim, Less, Equal, Greater, starts_with, is_le, is_lt, is_some_and, nat_cmp}
use Rattle.hc_world.proofs.Common.{ordering_reverse, ordering_then, slice_cmp, slice_partial_cmp, bytes_decides}
use Rattle.hc_world.proofs.Common.{lists_agrees, false≢true, true≢false, alike_right, nat_cmp_total}
use Rattle.hc_world.proofs.Common.{nat_list_cmp_total, ranked, tied_itself, is_before, is_up_to}
use Rattle.std.specs.declared.cmp.Ordering.{Ordering}

abbrev order : List ℕ → List ℕ → Ordering
order = slice_cmp nat_cmp

less : (o : Ordering) → is_lt o ≡ true → o ≡ Less
less Less h = refl
less Equal h = absurd (false≢true h)
less Greater h = absurd (false≢true h)

-- `<` of slices.
pub is_before-lt : (a b : List ℕ)
    → is_some_and is_lt (slice_partial_cmp (λ x y. Some (nat_cmp x y)) a b) ≡ is_before a b
is_before-lt a b = ap (is_some_and is_lt) (lists_agrees (λ x y. refl) a b)

-- ---- the laws of an order

pub not_before_itself : (a : List ℕ) → is_before a a ≡ false
not_before_itself a = ap is_lt (tied_itself nat_list_cmp_total a)

pub before_if_up_to : (a b c : List ℕ) → is_up_to a b ≡ true → is_before b c ≡ true → is_before a c ≡ true
before_if_up_to a b c h k =
    elim (order a b) as (λ o. order a b ≡ o → is_le o ≡ true → is_before a c ≡ true) [
      | Less ↦ λ e _. ap is_lt (nat_list_cmp_total.trans a b c e (less _ k))
      | Equal ↦ λ e _. ap is_lt (nat_list_cmp_total.congr a b c e) ∙ k
      | Greater ↦ λ _ g. absurd (false≢true g)
    ] refl h

pub before_then_up_to : (a b c : List ℕ) → is_before a b ≡ true → is_up_to b c ≡ true
    → is_before a c ≡ true
before_then_up_to a b c h k =
    elim (order b c) as (λ o. order b c ≡ o → is_le o ≡ true → is_before a c ≡ true) [
      | Less ↦ λ e _. ap is_lt (nat_list_cmp_total.trans a b c (less _ h) e)
      | Equal ↦ λ e _. ap is_lt (sym (alike_right nat_list_cmp_total b c a e)) ∙ h
      | Greater ↦ λ _ g. absurd (false≢true g)
    ] refl k

pub up_to-from_before : (a b : List ℕ) → is_before a b ≡ true → is_up_to a b ≡ true
up_to-from_before a b h = ap is_le (less _ h)

pub before-from_not_up_to : (a b : List ℕ) → is_up_to b a ≡ false → is_before a b ≡ true
before-from_not_up_to a b h =
    elim (order b a) as (λ o. order b a ≡ o → is_le o ≡ false → is_before a b ≡ true) [
      | Less ↦ λ _ g. absurd (true≢false g)
      | Equal ↦ λ _ g. absurd (true≢false g)
      | Greater ↦ λ e _. ap is_lt (nat_list_cmp_total.antisymm a b ∙ ap ordering_reverse e)
    ] refl h

-- ---- by the first bytes

not_before_nil : (a : List ℕ) → is_before a [] ≡ false
not_before_nil [] = refl
not_before_nil (x ∷ xs) = refl

-- The first byte decides, or else the rest.
before_cons : (x y : ℕ) (xs ys : List ℕ) → is_before (x ∷ xs) (y ∷ ys) ≡ true
    → (x < y) ⊎ ((x ≡ y) × (is_before xs ys ≡ true))
before_cons x y xs ys h =
    elim (nat_cmp x y) as (λ o.
    nat_cmp x y ≡ o → is_lt (ordering_then o (order xs ys)) ≡ true
    → (x < y) ⊎ ((x ≡ y) × (is_before xs ys ≡ true))) [
      | Less ↦ λ e _. inl (ranked x y Less (sym e))
      | Equal ↦ λ e g. inr (ranked x y Equal (sym e), g)
      | Greater ↦ λ _ g. absurd (false≢true g)
    ] refl h

-- What two texts begin with alike does not order them.
same_front : (front a b : List ℕ) → order (front ++ a) (front ++ b) ≡ order a b
same_front [] a b = refl
same_front (x ∷ xs) a b =
    ap (λ o. ordering_then o (order (xs ++ a) (xs ++ b))) (tied_itself nat_cmp_total x) ∙ same_front xs a b

pub before_longer : (a : List ℕ) (b : ℕ) → is_before a (a ++ b ∷ []) ≡ true
before_longer a b = ap (λ t. is_before t (a ++ b ∷ [])) (sym (append-nil a))
    ∙ ap is_lt (same_front a [] (b ∷ []))

pub not_before_front : (front rest : List ℕ) → is_before (front ++ rest) front ≡ false
not_before_front front rest =
    ap (is_before (front ++ rest)) (sym (append-nil front)) ∙ ap is_lt (same_front front rest [])
    ∙ not_before_nil rest

pub before_all_below : (child more : List ℕ) → is_before (child ++ 47 ∷ more) (child ++ 48 ∷ []) ≡ true
before_all_below child more = ap is_lt (same_front child (47 ∷ more) (48 ∷ []))

-- Nothing stands between a text and the same with a zero.
pub none_between : (a key : List ℕ) → is_before a key ≡ true → is_before key (a ++ 0 ∷ []) ≡ true → ⊥
none_between [] [] h k = false≢true h
none_between [] (y ∷ ys) h k =
    ⊎_elim (λ l. omega arith) (λ e. false≢true (sym (not_before_nil ys) ∙ e.1)) (before_cons y 0 ys [] k)
none_between (x ∷ xs) [] h k = false≢true h
none_between (x ∷ xs) (y ∷ ys) h k =
    let later = before_cons y x ys (xs ++ 0 ∷ []) k in
    ⊎_elim
    (λ l. ⊎_elim (λ m. omega arith) (λ e. omega arith) later)
    (λ d. ⊎_elim (λ m. omega arith) (λ e. none_between xs ys d.1 e.1) later)
    (before_cons x y xs ys h)

-- What stands behind a path below a child, and before the child with the byte behind the slash, is below this child.
pub below_child : (child more key : List ℕ) → is_before (child ++ 47 ∷ more) key ≡ true
    → is_before key (child ++ 48 ∷ []) ≡ true → (rest : List ℕ) × (key ≡ child ++ 47 ∷ rest)
below_child [] more [] h k = absurd (false≢true h)
below_child [] more (y ∷ ys) h k =
    ⊎_elim
    (λ l. absurd (⊎_elim (λ m. omega arith) (λ e. false≢true (sym (not_before_nil ys) ∙ e.1))
    (before_cons y 48 ys [] k)))
    (λ d. (ys, ap (λ b. b ∷ ys) (sym d.0)))
    (before_cons 47 y more ys h)
below_child (x ∷ xs) more [] h k = absurd (false≢true h)
below_child (x ∷ xs) more (y ∷ ys) h k =
    let later = before_cons y x ys (xs ++ 48 ∷ []) k in
    ⊎_elim
    (λ l. absurd (⊎_elim (λ m. omega arith) (λ e. omega arith) later))
    (λ d. ⊎_elim
    (λ m. absurd (omega arith))
    (λ e. let r = below_child xs more ys d.1 e.1 in (r.0, ap (λ b. b ∷ ys) e.0 ∙ ap (λ s. x ∷ s) r.1))
    later)
    (before_cons x y (xs ++ 47 ∷ more) ys h)

-- What stands between a front and a text that begins so begins so too.
begins_so : (front path rest : List ℕ) → is_before path front ≡ false → is_before path (front ++ rest) ≡ true
    → front ≡ take (length front) path
begins_so [] path rest h k = refl
begins_so (x ∷ xs) [] rest h k = absurd (true≢false h)
begins_so (x ∷ xs) (y ∷ ys) rest h k =
    elim (nat_cmp y x) as (λ o.
    nat_cmp y x ≡ o → is_lt (ordering_then o (order ys xs)) ≡ false
    → is_lt (ordering_then o (order ys (xs ++ rest))) ≡ true → x ∷ xs ≡ take (length (x ∷ xs)) (y ∷ ys)) [
      | Less ↦ λ _ a _. absurd (true≢false a)
      | Equal ↦ λ e a b. ap (λ c. c ∷ xs) (sym (ranked y x Equal (sym e)))
          ∙ ap (λ s. y ∷ s) (begins_so xs ys rest a b)
      | Greater ↦ λ _ _ b. absurd (false≢true b)
    ] refl h k

pub starts_so : (front path rest : List ℕ) → is_before path front ≡ false
    → is_before path (front ++ rest) ≡ true → starts_with nat_eq path front ≡ true
starts_so front path rest h k = (bytes_decides front (take (length front) path)).1 (begins_so front path rest h k)
