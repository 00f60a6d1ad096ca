-- The close of a name.
use Rattle.hc_nodes.proofs.Common.{◌≡◌, ◌≢◌, ℕ, ◌<◌, List, [], ◌∷◌, ◌++◌, map, true, false}
use Rattle.hc_nodes.proofs.Common.{◌&&◌, ◌==◌, refl, sym, ap, ◌∙◌, inl, inr, Option, Some, None}
use Rattle.hc_nodes.proofs.Common.{MatchOption, Bor, arith, and_right, cases_lt, false_from_ne_true, bytes_eq-Decides}
use Rattle.hc_nodes.proofs.Common.{greater, less, slash, close_of, same_name}
use Rattle.std.specs.Char.{to_ascii_lowercase}
use Rattle.std.proofs.lemmas.Str.Ascii.{lowercase_is}
use Rattle.hc_nodes.specs.Closes.{IsNoClose}

same_below : (c b : ℕ) → b < 65 → to_ascii_lowercase c ≡ b → c ≡ b
same_below c b small is =
    let cases = lowercase_is c in
    elim (cases_lt c 65) [
      | inl low ↦ sym (cases.1 low)
          ∙ is
      | inr high ↦ elim (cases_lt 90 c) [
        | inl above ↦ sym (cases.2 above)
            ∙ is
        | inr within ↦ absurd (omega (arith, cases.0 (high, omega arith)))
      ]
    ]

-- What is an end with `>` without case has it.
ends_greater : (name text : List ℕ) → map to_ascii_lowercase text
    ≡ map to_ascii_lowercase (name ++ greater ∷ []) → (inside : List ℕ) × (text ≡ inside ++ greater ∷ [])
ends_greater [] [] same = cc
ends_greater [] (x ∷ []) same = let is : x ≡ greater = same_below x greater (omega arith) (cc) in ([], rw is refl)
ends_greater [] (x ∷ y ∷ text) same = cc
ends_greater (n ∷ name) [] same = cc
ends_greater (n ∷ name) (x ∷ text) same =
    let later : map to_ascii_lowercase text ≡ map to_ascii_lowercase (name ++ greater ∷ []) = cc in
    let found = ends_greater name text later in
    (x ∷ found.0, ap (λ l. x ∷ l) found.1)

pub closes_are : (text name : List ℕ) → same_name text (close_of name) ≡ true → (inside : List ℕ)
    × (text ≡ less ∷ slash ∷ inside ++ greater ∷ [])
closes_are text name is = lowered text name ((bytes_eq-Decides _ _).0 is) where
  lowered : (text name : List ℕ) → map to_ascii_lowercase text ≡ map to_ascii_lowercase (close_of name)
      → (inside : List ℕ) × (text ≡ less ∷ slash ∷ inside ++ greater ∷ [])
  lowered [] name same = cc
  lowered (x ∷ []) name same = cc
  lowered (x ∷ y ∷ text) name same =
      let first : x ≡ less = same_below x less (omega arith) (cc) in
      let second : y ≡ slash = same_below y slash (omega arith) (cc) in
      let later : map to_ascii_lowercase text ≡ map to_ascii_lowercase (name ++ greater ∷ []) = cc in
      let found = ends_greater name text later in
      (found.0, rw (first, second) (ap (λ l. less ∷ slash ∷ l) found.1))

pub no_close : (text name : List ℕ) → IsNoClose text → same_name text (close_of name) ≡ false
no_close text name isnt = false_from_ne_true _ (λ is. let found = closes_are text name is in isnt found.0 found.1)

nothing_ends : (b : ℕ) (bs : List ℕ) → same_name (greater ∷ []) (b ∷ bs ++ greater ∷ []) ≡ false
nothing_ends b [] = and_right _ _ refl
nothing_ends b (c ∷ bs) = and_right _ _ refl

nothing_begins : (b : ℕ) (bs : List ℕ) → same_name (b ∷ bs ++ greater ∷ []) (greater ∷ []) ≡ false
nothing_begins b [] = and_right _ _ refl
nothing_begins b (c ∷ bs) = and_right _ _ refl

same_end : (a b : List ℕ) → same_name (a ++ greater ∷ []) (b ++ greater ∷ []) ≡ same_name a b
same_end [] [] = refl
same_end [] (y ∷ b) = nothing_ends y b
same_end (x ∷ a) [] = nothing_begins x a
same_end (x ∷ a) (y ∷ b) = ap (λ same. (to_ascii_lowercase x == to_ascii_lowercase y) && same) (same_end a b)

pub same_close : (text inside name : List ℕ) → text ≡ less ∷ slash ∷ inside ++ greater ∷ []
    → same_name text (close_of name) ≡ same_name inside name
same_close text inside name is = ap (λ t. same_name t (close_of name)) is ∙ same_end inside name

pub behind_front : (text rest : List ℕ) (r : Option (Bor (List ℕ))) → text ≡ less ∷ slash ∷ rest
    → MatchOption r ((inside : List ℕ) → rest ≢ inside ++ greater ∷ [])
    (λ x. rest ≡ x.now ++ greater ∷ [])
    → MatchOption r (IsNoClose text) (λ x. text ≡ less ∷ slash ∷ x.now ++ greater ∷ [])
behind_front text rest None is ends = λ inside e. ends inside (cc)
behind_front text rest (Some x) is ends = is ∙ ap (λ l. less ∷ slash ∷ l) ends
