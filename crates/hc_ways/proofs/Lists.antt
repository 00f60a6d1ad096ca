-- Lists of ways, and what holds of each of them.
use Rattle.hc_ways.proofs.Common.{◌≡◌, Bool, true, false, List, [], ◌∷◌, ◌++◌, if◌then◌else◌}
use Rattle.hc_ways.proofs.Common.{refl, ap, ◌∙◌, flat_map, filter}
use Rattle.std.specs.Prelude.{map}
use Rattle.std.proofs.lemmas.List.Concat.{flat_map-append}

pub flat_map-flat_map : {A B C : Type 0} (f : A → List B) (g : B → List C) (xs : List A)
    → flat_map g (flat_map f xs) ≡ flat_map (λ x. flat_map g (f x)) xs
flat_map-flat_map f g [] = refl
flat_map-flat_map f g (x ∷ xs) = flat_map-append g (f x) (flat_map f xs)
    ∙ ap (λ l. flat_map g (f x) ++ l) (flat_map-flat_map f g xs)

filter_step : {A B : Type 0} (f : A → List B) (test : A → Bool) (x : A) (xs : List A) (v : Bool)
    → flat_map f (filter test xs) ≡ flat_map (λ x. if test x then f x else []) xs
    → flat_map f (if v then x ∷ filter test xs else filter test xs) ≡ (if v then f x else []) ++ flat_map
    (λ x. if test x then f x else []) xs
filter_step f test x xs true later = ap (λ l. f x ++ l) later
filter_step f test x xs false later = later

pub flat_map-filter : {A B : Type 0} (f : A → List B) (test : A → Bool) (xs : List A)
    → flat_map f (filter test xs) ≡ flat_map (λ x. if test x then f x else []) xs
flat_map-filter f test [] = refl
flat_map-filter f test (x ∷ xs) = filter_step f test x xs (test x) (flat_map-filter f test xs)

-- It holds of each.
abbrev pub Each : {A : Type 0} → (A → Type 0) → List A → Type 0
Each P [] = Unit {0}
Each P (x ∷ xs) = P x × Each P xs

pub Each-append : {A : Type 0} (P : A → Type 0) (xs ys : List A) → Each P xs → Each P ys → Each P (xs ++ ys)
Each-append P [] ys first later = later
Each-append P (x ∷ xs) ys first later = (first.0, Each-append P xs ys first.1 later)

pub Each-flat_map : {A B : Type 0} (P : A → Type 0) (Q : B → Type 0) (f : A → List B) (xs : List A) → Each P xs
    → ((x : A) → P x → Each Q (f x)) → Each Q (flat_map f xs)
Each-flat_map P Q f [] each step = tt
Each-flat_map P Q f (x ∷ xs) each step =
    Each-append Q (f x) (flat_map f xs) (step x each.0) (Each-flat_map P Q f xs each.1 step)

pub Each-as : {A : Type 0} (P Q : A → Type 0) (xs : List A) → ((x : A) → P x → Q x) → Each P xs → Each Q xs
Each-as P Q [] step each = tt
Each-as P Q (x ∷ xs) step each = (step x each.0, Each-as P Q xs step each.1)

filter_each : {A : Type 0} (P : A → Type 0) (x : A) (xs : List A) (v : Bool) → P x → Each P xs
    → Each P (if v then x ∷ xs else xs)
filter_each P x xs true here each = (here, each)
filter_each P x xs false here each = each

pub Each-filter : {A : Type 0} (P : A → Type 0) (test : A → Bool) (xs : List A) → Each P xs
    → Each P (filter test xs)
Each-filter P test [] each = tt
Each-filter P test (x ∷ xs) each = filter_each P x (filter test xs) (test x) each.0 (Each-filter P test xs each.1)

pub Each-map : {A B : Type 0} (P : A → Type 0) (Q : B → Type 0) (f : A → B) (xs : List A) → Each P xs
    → ((x : A) → P x → Q (f x)) → Each Q (map f xs)
Each-map P Q f [] each step = tt
Each-map P Q f (x ∷ xs) each step = (step x each.0, Each-map P Q f xs each.1 step)

-- Where two functions agree on each.
pub flat_map-each : {A B : Type 0} (P : A → Type 0) (f g : A → List B) (xs : List A) → Each P xs
    → ((x : A) → P x → f x ≡ g x) → flat_map f xs ≡ flat_map g xs
flat_map-each P f g [] each same = refl
flat_map-each P f g (x ∷ xs) each same = ap (λ l. l ++ flat_map f xs) (same x each.0)
    ∙ ap (λ l. g x ++ l) (flat_map-each P f g xs each.1 same)
