-- The first entry of two lists that takes a path.
use Rattle.std.proofs.Common.{◌≡◌, ℕ, List, [], ◌∷◌, ◌++◌, Option, Some, None, refl, ◌∙◌, ap}
use Rattle.std.specs.Option.{option_map, option_or}
use Rattle.std.proofs.lemmas.List.{append-nil}
use Rattle.hc_model.specs.declared.mapping.PathTest.{PathTest}
use Rattle.hc_alias.specs.Tests.{Found, first_taking, found_by, or_later}

or_later-or : {A : Type 0} (entry : A) (found : Option Found) (some more : Option (A × Found))
    → or_later entry found (option_or some more) ≡ option_or (or_later entry found some) more
or_later-or entry (Some found) some more = refl
or_later-or entry None some more = refl

taking-append : {A : Type 0} (test : A → PathTest) (xs ys : List A) (path : List ℕ)
    → first_taking test (xs ++ ys) path ≡ option_or (first_taking test xs path) (first_taking test ys path)
taking-append test [] ys path = refl
taking-append test (x ∷ xs) ys path =
    ap (or_later x (found_by (test x) path)) (taking-append test xs ys path)
    ∙ or_later-or x (found_by (test x) path) (first_taking test xs path) (first_taking test ys path)

option_map-or : {A B : Type 0} (f : A → B) (some more : Option A)
    → option_map f (option_or some more) ≡ option_or (option_map f some) (option_map f more)
option_map-or f None more = refl
option_map-or f (Some x) more = refl

pub first_of_both : {A B : Type 0} (test : A → PathTest) (f : A × Found → B) (xs ys : List A) (path : List ℕ)
    → option_map f (first_taking test (xs ++ (ys ++ [])) path)
    ≡ option_or (option_map f (first_taking test xs path)) (option_map f (first_taking test ys path))
first_of_both test f xs ys path =
    ap (λ l. option_map f (first_taking test (xs ++ l) path)) (append-nil ys)
    ∙ ap (option_map f) (taking-append test xs ys path)
    ∙ option_map-or f (first_taking test xs path) (first_taking test ys path)
