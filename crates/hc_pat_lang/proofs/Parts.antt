-- Lists: what holds of some element, of all, and at a place.
use Rattle.hc_pat_lang.proofs.Common.{◌≡◌, ℕ, zero, suc, ◌+◌, ◌<◌, ◌≤◌, ◌⊎◌, Bool, true}
use Rattle.hc_pat_lang.proofs.Common.{false, List, [], ◌∷◌, ◌++◌, length, drop, map, filter}
use Rattle.hc_pat_lang.proofs.Common.{if◌then◌else◌, Some, None, slice_get, refl, sym, ◌∙◌, ap, subst, inl}
use Rattle.hc_pat_lang.proofs.Common.{inr, arith, slice_get-get_or, ◌↔◌, AllByRecursion, Contains, flat_map}
use Rattle.hc_pat_lang.proofs.Common.{Exists, Option, meets, turn_or_next, Way, Ways, preferred, stop, behind}
use Rattle.hc_pat_lang.proofs.Common.{turns_then}

-- ---- some element

pub on_right : {A B C : Type 0} → (B → C) → A ⊎ B → A ⊎ C
on_right f (inl first) = inl first
on_right f (inr second) = inr (f second)

pub exists_as : {A : Type 0} (P Q : A → Type 0) (xs : List A) → ((x : A) → P x → Q x) → Exists P xs
    → Exists Q xs
exists_as P Q [] to some = some
exists_as P Q (x ∷ xs) to (inl here) = inl (to x here)
exists_as P Q (x ∷ xs) to (inr later) = inr (exists_as P Q xs to later)

-- Where something holds of all elements.
pub exists_with : {A : Type 0} (All P Q : A → Type 0) (xs : List A) → AllByRecursion All xs
    → ((x : A) → All x → P x → Q x) → Exists P xs → Exists Q xs
exists_with All P Q [] all to some = some
exists_with All P Q (x ∷ xs) all to (inl here) = inl (to x all.0 here)
exists_with All P Q (x ∷ xs) all to (inr later) = inr (exists_with All P Q xs all.1 to later)

pub exists_left : {A : Type 0} (P : A → Type 0) (xs ys : List A) → Exists P xs → Exists P (xs ++ ys)
exists_left P [] ys some = absurd some
exists_left P (x ∷ xs) ys (inl here) = inl here
exists_left P (x ∷ xs) ys (inr later) = inr (exists_left P xs ys later)

pub exists_right : {A : Type 0} (P : A → Type 0) (xs ys : List A) → Exists P ys → Exists P (xs ++ ys)
exists_right P [] ys some = some
exists_right P (x ∷ xs) ys some = inr (exists_right P xs ys some)

pub exists_cases : {A : Type 0} (P : A → Type 0) (xs ys : List A) → Exists P (xs ++ ys) → Exists P xs
    ⊎ Exists P ys
exists_cases P [] ys some = inr some
exists_cases P (x ∷ xs) ys (inl here) = inl (inl here)
exists_cases P (x ∷ xs) ys (inr later) =
    elim (exists_cases P xs ys later) [ inl left ↦ inl (inr left) | inr right ↦ inr right ]

pub to_flat : {A B : Type 0} (P : B → Type 0) (f : A → List B) (xs : List A) → Exists (λ x. Exists P (f x)) xs
    → Exists P (flat_map f xs)
to_flat P f [] some = some
to_flat P f (x ∷ xs) (inl here) = exists_left P (f x) (flat_map f xs) here
to_flat P f (x ∷ xs) (inr later) = exists_right P (f x) (flat_map f xs) (to_flat P f xs later)

pub from_flat : {A B : Type 0} (P : B → Type 0) (f : A → List B) (xs : List A) → Exists P (flat_map f xs)
    → Exists (λ x. Exists P (f x)) xs
from_flat P f [] some = some
from_flat P f (x ∷ xs) some =
    elim (exists_cases P (f x) (flat_map f xs) some)
    [ inl here ↦ inl here | inr later ↦ inr (from_flat P f xs later) ]

pub some_mapped : {A B : Type 0} (P : B → Type 0) (f : A → B) (xs : List A) → Exists P (map f xs)
    ↔ Exists (λ x. P (f x)) xs
some_mapped P f [] = ((λ some. some), (λ some. some))
some_mapped P f (x ∷ xs) =
    (let later = some_mapped P f xs in ((λ some. on_right later.0 some), (λ some. on_right later.1 some)))

pub some_filtered : {A : Type 0} (P : A → Type 0) (test : A → Bool) (xs : List A) → Exists P (filter test xs)
    ↔ Exists (λ x. P x × (test x ≡ true)) xs
some_filtered P test [] = ((λ some. some), (λ some. some))
some_filtered {A} P test (x ∷ xs) = by_test (test x) refl (some_filtered P test xs)
  where
    by_test : (v : Bool) → test x ≡ v → Exists P (filter test xs)
        ↔ Exists (λ (y : A). P y × (test y ≡ true)) xs
        → Exists P (if v then x ∷ filter test xs else filter test xs)
        ↔ ((P x × (test x ≡ true)) ⊎ Exists (λ (y : A). P y × (test y ≡ true)) xs)
    by_test true is later = (
      (λ some. elim some [ inl here ↦ inl (here, is) | inr there ↦ inr (later.0 there) ]),
      (λ some. elim some [ inl here ↦ inl here.0 | inr there ↦ inr (later.1 there) ]),
    )
    by_test false is later = (
      (λ some. inr (later.0 some)),
      (λ some. elim some [ inl here ↦ absurd (let e = here.1 in cc) | inr there ↦ later.1 there ]),
    )

pub exists_if : {A : Type 0} (P : A → Type 0) (x : A) (v : Bool) → v ≡ true → P x
    → Exists P (if v then x ∷ [] else [])
exists_if P x true is here = inl here
exists_if P x false is here = absurd (let f = is in cc)

pub if_exists : {A : Type 0} (P : A → Type 0) (x : A) (v : Bool) → Exists P (if v then x ∷ [] else [])
    → (v ≡ true) × P x
if_exists P x true (inl here) = (refl, here)
if_exists P x true (inr none) = absurd none
if_exists P x false none = absurd none

-- A turn, or none: which of them is preferred tells nothing.
pub some_preferred : {K : Type 0} (P : Way K → Type 0) (greedy : Bool) (turn : Ways K) (at : ℕ) (held : K)
    → Exists P (preferred greedy turn at held) ↔ (Exists P (turn at held) ⊎ P (record { end = at; held = held }))
some_preferred P true turn at held = (
  (λ some. elim (exists_cases P (turn at held) (stop at held) some)
      [ inl turned ↦ inl turned | inr here ↦ elim here [ inl is ↦ inr is | inr none ↦ absurd none ] ]),
  (λ either. elim either [
    | inl turned ↦ exists_left P (turn at held) (stop at held) turned
    | inr is ↦ exists_right
        P (turn at held) (stop at held) (inl is)
  ]),
)
some_preferred P false turn at held = (
  (λ some. elim some [ inl is ↦ inr is | inr turned ↦ inl turned ]),
  (λ either. elim either [ inl turned ↦ inr turned | inr is ↦ inl is ]),
)

pub exists_among : {A : Type 0} (P : A → Type 0) (xs : List A) → Exists P xs → (x : A) × Contains xs x × P x
exists_among P [] some = absurd some
exists_among P (x ∷ xs) (inl here) = (x, (zero, omega arith, refl), here)
exists_among {A} P (x ∷ xs) (inr later) =
    let found : (y : A) × Contains xs y × P y = exists_among P xs later in
    (found.0, (suc found.1.0, (let w = found.1.1 in omega arith), found.1.2), found.2)

at_place : {A : Type 0} (P : A → Type 0) (xs : List A) (x : A) (k : ℕ) → slice_get xs k ≡ Some x → P x
    → Exists P xs
at_place P [] x k at is = absurd (let f = at in cc)
at_place P (y ∷ ys) x zero at is = inl (let e : y ≡ x = cc in subst P (sym e) is)
at_place P (y ∷ ys) x (suc k) at is = inr (at_place P ys x k at is)

pub among_exists : {A : Type 0} (P : A → Type 0) (xs : List A) (x : A) → Contains xs x → P x → Exists P xs
among_exists P xs x among is = at_place P xs x among.0 (slice_get-get_or xs among.0 x among.1 ∙ ap Some among.2) is

pub some_is : {A : Type 0} (xs : List A) (x : A) → Contains xs x → Exists (λ (y : A). y ≡ x) xs
some_is {A} xs x among = among_exists (λ (y : A). y ≡ x) xs x among refl

pub is_among : {A : Type 0} (xs : List A) (x : A) → Exists (λ (y : A). y ≡ x) xs → Contains xs x
is_among {A} xs x some = (let found = exists_among (λ (y : A). y ≡ x) xs some in rw found.2 at found.1)

pub some_turn_or_next : {K : Type 0} (P : Way K → Type 0) (greedy : Bool) (a b : Ways K) (at : ℕ) (held : K)
    → Exists P (turn_or_next greedy a b at held) ↔ (Exists P (a at held) ⊎ Exists P (b at held))
some_turn_or_next P true a b at held = (
  exists_cases P (a at held) (b at held),
  (λ either. elim either [
    | inl first ↦ exists_left P (a at held) (b at held) first
    | inr next ↦ exists_right P
        (a at held) (b at held) next
  ]),
)
some_turn_or_next P false a b at held = (
  (λ some. elim (exists_cases P (b at held) (a at held) some) [ inl next ↦ inr next | inr first ↦ inl first ]),
  (λ either. elim either [
    | inl first ↦ exists_right P (b at held) (a at held) first
    | inr next ↦ exists_left P
        (b at held) (a at held) next
  ]),
)

-- A turn before others is one more.
pub then_one : {K : Type 0} (body : Ways K) (least : ℕ) (more : Ways K) → turns_then body least (behind body more)
    ≡ behind body (turns_then body least more)
then_one body zero more = refl
then_one body (suc least) more = ap (behind body) (then_one body least more)

-- ---- all elements

pub all_among : {A : Type 0} (P : A → Type 0) (xs : List A) (x : A) → AllByRecursion P xs → Contains xs x → P x
all_among {A} P xs x all among =
    (exists_among (λ (y : A). P x) xs
    (exists_with P (λ (y : A). y ≡ x) (λ (y : A). P x) xs all (λ y here e. rw e at here) (some_is xs x among))).2

pub all_if : {A : Type 0} (P : A → Type 0) (x : A) (v : Bool) → (v ≡ true → P x)
    → AllByRecursion P (if v then x ∷ [] else [])
all_if P x true here = (here refl, tt)
all_if P x false here = tt

-- Of those that pass the test.
pub all_passed : {A : Type 0} (P : A → Type 0) (test : A → Bool) (xs : List A) → AllByRecursion P xs
    → AllByRecursion (λ (x : A). P x × (test x ≡ true)) (filter test xs)
all_passed P test [] all = tt
all_passed {A} P test (x ∷ xs) all = by_test (test x) refl (all_passed P test xs all.1)
  where
    by_test : (v : Bool) → test x ≡ v → AllByRecursion (λ (y : A). P y × (test y ≡ true)) (filter test xs)
        → AllByRecursion (λ (y : A). P y × (test y ≡ true)) (if v then x ∷ filter test xs else filter test xs)
    by_test true is later = ((all.0, is), later)
    by_test false is later = later

pub all_as : {A : Type 0} (P Q : A → Type 0) (xs : List A) → ((x : A) → P x → Q x) → AllByRecursion P xs
    → AllByRecursion Q xs
all_as P Q [] to all = tt
all_as P Q (x ∷ xs) to all = (to x all.0, all_as P Q xs to all.1)

-- ---- tests

pub meets_some : (test : ℕ → Bool) (sight : Option ℕ) → meets test sight ≡ true → (byte : ℕ)
    × (sight ≡ Some byte) × (test byte ≡ true)
meets_some test None is = absurd (let f = is in cc)
meets_some test (Some byte) is = (byte, refl, is)

-- ---- places

pub get_left : {A : Type 0} (xs ys : List A) (i : ℕ) (x : A) → slice_get xs i ≡ Some x
    → slice_get (xs ++ ys) i ≡ Some x
get_left [] ys i x at = absurd (let f = at in cc)
get_left (y ∷ xs) ys zero x at = at
get_left (y ∷ xs) ys (suc i) x at = get_left xs ys i x at

pub get_cases : {A : Type 0} (xs : List A) (y : A) (i : ℕ) (x : A) → slice_get (xs ++ y ∷ []) i ≡ Some x
    → (slice_get xs i ≡ Some x) ⊎ ((i ≡ length xs) × (y ≡ x))
get_cases [] y zero x at = inr (refl, let e : y ≡ x = cc in e)
get_cases [] y (suc i) x at = absurd (let f = at in cc)
get_cases (z ∷ xs) y zero x at = inl at
get_cases (z ∷ xs) y (suc i) x at =
    elim (get_cases xs y i x at) [ inl before ↦ inl before | inr last ↦ inr (ap suc last.0, last.1) ]

-- At a place a text ends, or goes on with a byte.
pub record GoesOn (text : List ℕ) (at : ℕ) : Type 0 where
  pub byte : ℕ
  pub here : slice_get text at ≡ Some byte
  pub rest : drop at text ≡ byte ∷ drop (at + 1) text
  pub within : at < length text

pub goes_on : (text : List ℕ) (at : ℕ)
    → ((slice_get text at ≡ None) × (drop at text ≡ []) × (length text ≤ at)) ⊎ GoesOn text at
goes_on [] zero = inl (refl, refl, omega arith)
goes_on [] (suc at) = inl (refl, refl, omega arith)
goes_on (b ∷ bs) zero = inr (record { byte = b; here = refl; rest = refl; within = omega arith })
goes_on (b ∷ bs) (suc at) = elim (goes_on bs at) [
  | inl past ↦ inl (past.0, past.1, (let p = past.2 in omega arith))
  | inr on ↦ inr
      (record {
        byte = on.byte;
        here = on.here;
        rest = on.rest ∙ ap (λ (n : ℕ). on.byte ∷ drop n (b ∷ bs))
            (let e : suc (at + 1) ≡ suc at + 1 = omega arith in e);
        within = (let w = on.within in omega arith);
      })
]
