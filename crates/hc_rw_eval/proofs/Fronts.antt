-- A front and a slash behind it.
use Rattle.hc_rw_eval.proofs.Common.{◌≡◌, ◌∙◌, ℕ, List, [], ◌∷◌, length, drop, Bool, true, false}
use Rattle.hc_rw_eval.proofs.Common.{refl, sym, ap, arith}
use Rattle.std.proofs.Common.{◌++◌, ◌&&◌, nat_eq, length-append}
use Rattle.std.proofs.lemmas.List.{drop-drop}
use Rattle.std.specs.List.{starts_with}
use Rattle.hc_base.specs.Bytes.{slash}
use Rattle.hc_base.specs.Paths.{begins_with_slash}

slash_either_way : (b : ℕ) → (nat_eq slash b && true) ≡ nat_eq b slash
slash_either_way b = grind arith

-- A text begins with both where it begins with the front, and what follows with a slash.
pub slash_behind : (front text : List ℕ) → starts_with nat_eq text (front ++ slash ∷ [])
    ≡ (starts_with nat_eq text front && begins_with_slash (drop (length front) text))
slash_behind [] [] = refl
slash_behind [] (b ∷ bs) = slash_either_way b
slash_behind (x ∷ xs) [] = refl
slash_behind (x ∷ xs) (y ∷ ys) = both (nat_eq x y) (slash_behind xs ys) where
  both : (same : Bool) → starts_with nat_eq ys (xs ++ slash ∷ [])
      ≡ (starts_with nat_eq ys xs && begins_with_slash (drop (length xs) ys))
      → (same && starts_with nat_eq ys (xs ++ slash ∷ []))
      ≡ ((same && starts_with nat_eq ys xs) && begins_with_slash (drop (length xs) ys))
  both true more = more
  both false more = refl

pub behind_slash : (front text : List ℕ) → drop (length (front ++ slash ∷ [])) text
    ≡ drop 1 (drop (length front) text)
behind_slash front text = ap (λ n. drop n text) (length-append front (slash ∷ []))
    ∙ sym (drop-drop 1 (length front) text)

pub ruleset fronts = (slash_behind, behind_slash)
