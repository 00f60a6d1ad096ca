-- A row is read number by number.
use Rattle.hc_addr.proofs.Common.{◌≡◌, ℕ, suc, ◌+◌, ◌*◌, ◌<◌, ◌≤◌, Bool, true, false, cond}
use Rattle.hc_addr.proofs.Common.{List, ◌∷◌, length, get_or, drop, Option, Some, None, refl, ap, sym, ◌∙◌}
use Rattle.hc_addr.proofs.Common.{ltb, leb, arith, nat_tests, base_of, most_of, number_in, row_with, numbers_of}
use Rattle.hc_addr.proofs.Common.{with_first}
use Rattle.std.specs.Int.Digits.{number_from_digits_after}
use Rattle.hc_addr.specs.declared.numbers.NumberRow.{NumberRow}
use Rattle.std.proofs.lemmas.List.{at_drop_more, at_drop_all}
use Rattle.hc_addr.specs.declared.numbers.Form.{Form}

-- The row that is read so far, and then these numbers.
abbrev pub more : ℕ → ℕ → NumberRow → Option (List ℕ) → Option NumberRow
more base most row None = None
more base most row (Some ns) =
    cond (leb (row.count + length ns) most)
    (Some (record { value = number_from_digits_after base row.value ns; count = row.count + length ns })) None

abbrev pub more_after : ℕ → ℕ → Option (List ℕ) → Option NumberRow → Option NumberRow
more_after base most rest None = None
more_after base most rest (Some row) = more base most row rest

moved : (base most v : ℕ) (a b : ℕ) (ns : List ℕ) → a ≡ b
    → cond (leb a most)
    (Some (let r : NumberRow = record { value = number_from_digits_after base v ns; count = a } in r)) None
    ≡ cond (leb b most)
    (Some (let r : NumberRow = record { value = number_from_digits_after base v ns; count = b } in r)) None
moved base most v a b ns e =
    ap (λ k. cond (leb k most)
    (Some (let r : NumberRow = record { value = number_from_digits_after base v ns; count = k } in r)) None) e

full : (base most : ℕ) (row : NumberRow) (n : ℕ) (ns : List ℕ) (b : Bool) → ltb row.count most ≡ b
    → more base most row (Some (n ∷ ns)) ≡ more_after base most (Some ns)
    (cond b (Some (record { value = row.value * base + n; count = row.count + 1 })) None)
full base most row n ns true e = let e : row.count + suc (length ns) ≡ row.count + 1 + length ns = omega arith in
    moved base most _ _ _ ns e
full base most row n ns false e = let h : leb (row.count + suc (length ns)) most ≡ false = grind (arith, nat_tests) in
    rw h refl

empty : (base most : ℕ) (row : NumberRow) (n : ℕ) (b : Bool)
    → None ≡ more_after base most None
    (cond b (Some (record { value = row.value * base + n; count = row.count + 1 })) None)
empty base most row n true = refl
empty base most row n false = refl

-- One number, and then the others.
pub more_step : (base most : ℕ) (row : NumberRow) (first : Option ℕ) (rest : Option (List ℕ))
    → more base most row (with_first first rest) ≡ more_after base most rest (row_with base most row first)
more_step base most row None rest = refl
more_step base most row (Some n) None = empty base most row n (ltb row.count most)
more_step base most row (Some n) (Some ns) = full base most row n ns (ltb row.count most) refl

-- What the row and these pieces make.
abbrev pub on : Form → NumberRow → List (List ℕ) → Option NumberRow
on form row pieces = more (base_of form) (most_of form) row (numbers_of (number_in form) pieces)

pub on_step : (form : Form) (row : NumberRow) (pieces : List (List ℕ)) (k : ℕ) (piece : List ℕ)
    → (k < length pieces) × (piece ≡ get_or pieces k piece)
    → on form row (drop k pieces) ≡ more_after (base_of form) (most_of form)
    (numbers_of (number_in form) (drop (k + 1) pieces))
    (row_with (base_of form) (most_of form) row (number_in form piece))
on_step form row pieces k piece h =
    at_drop_more (on form row) pieces k piece h.0 ∙ ap (λ p. on form row (p ∷ drop (k + 1) pieces)) (sym h.1)
    ∙ more_step (base_of form) (most_of form) row (number_in form piece)
    (numbers_of (number_in form) (drop (k + 1) pieces))

pub on_end : (form : Form) (row : NumberRow) (pieces : List (List ℕ)) (k : ℕ) → row.count ≤ most_of form
    → length pieces ≤ k → on form row (drop k pieces) ≡ Some row
on_end form row pieces k room h =
    let e : row.count + 0 ≡ row.count = omega arith in
    let t : leb row.count (most_of form) ≡ true = grind (arith, nat_tests) in
    at_drop_all (on form row) pieces k h ∙ (rw (e, t) refl)
