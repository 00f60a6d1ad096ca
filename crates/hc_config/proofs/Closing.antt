-- The last opening leaves.
use Rattle.std.proofs.Common.{◌≡◌, ◌-◌, List, [], ◌∷◌, ◌++◌, length, map, take, Result, Ok, Err}
use Rattle.std.proofs.Common.{Some, OnOk, refl, ap, sym, ◌∙◌, arith}
use Rattle.std.specs.List.{slice_get}
use Rattle.std.proofs.lemmas.List.{length-map, length_push}
use Rattle.hc_config.specs.Levels as definition
use Rattle.hc_config.specs.Levels.{closed_by, innermost_closed, last_of, with_closed, without_last}
use Rattle.hc_config.specs.LevelViews.{around_of, standing_of}
use Rattle.hc_config.specs.declared.gathered.Gathered.{Gathered}
use Rattle.hc_config.specs.declared.levels.Around.{Around}
use Rattle.hc_config.specs.declared.levels.Standing.{Standing}

module _ {A B : Type 0} (f : A → B) (x : A) where
  count : (xs : List A) → length (map f (xs ++ x ∷ [])) - 1 ≡ length xs
  count xs = omega (arith, length-map (xs ++ x ∷ []) f, length_push xs x)

  at_end : (xs : List A) → slice_get (map f (xs ++ x ∷ [])) (length xs) ≡ Some (f x)
  at_end [] = refl
  at_end (y ∷ ys) = at_end ys

  front : (xs : List A) → take (length xs) (map f (xs ++ x ∷ [])) ≡ map f xs
  front [] = refl
  front (y ∷ ys) = ap (λ zs. f y ∷ zs) (front ys)

  last_is : (xs : List A) → last_of (map f (xs ++ x ∷ [])) ≡ Some (f x)
  last_is xs = ap (slice_get (map f (xs ++ x ∷ []))) (count xs) ∙ at_end xs

  front_is : (xs : List A) → without_last (map f (xs ++ x ∷ [])) ≡ map f xs
  front_is xs = ap (λ n. take n (map f (xs ++ x ∷ []))) (count xs) ∙ front xs

-- What is left once an opening is closed.
abbrev left : Around → Gathered → List definition.Around → definition.Standing
left around so_far rest =
    record { so_far = so_far; held = around.held.items; around = rest; chained = around.opening.chained }

abbrev closed_in : Standing → Around → Gathered
closed_in standing around = with_closed around.opening.spot around.opening.opened standing.so_far around.gathered

closed_last : (standing : Standing) (before : List Around) (around : Around)
    → standing.around.items ≡ before ++ around ∷ []
    → innermost_closed (standing_of standing) ≡ left around (closed_in standing around) (map around_of before)
closed_last standing before around is =
    ap (λ items. closed_by (standing_of standing) (last_of (map around_of items))) is
    ∙ ap (closed_by (standing_of standing)) (last_is around_of around before)
    ∙ ap (λ items. left around (closed_in standing around) (without_last (map around_of items))) is
    ∙ ap (left around (closed_in standing around)) (front_is around_of around before)

pub on_closed : {R : Type 0} (result : Result Unit R) (standing : Standing) (before : List Around) (around : Around)
    (closed : Gathered)
    → standing.around.items ≡ before ++ around ∷ [] → OnOk result (closed ≡ closed_in standing around)
    → OnOk result (left around closed (map around_of before) ≡ innermost_closed (standing_of standing))
on_closed (Err fault) standing before around closed is closed_is = closed_is
on_closed (Ok _) standing before around closed is closed_is =
    ap (λ so_far. left around so_far (map around_of before)) closed_is ∙ sym (closed_last standing before around is)
