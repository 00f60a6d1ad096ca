-- Blanks and joins at the ends of a text.
use Rattle.hc_lines.proofs.Common.{◌≡◌, ℕ, ◌-◌, ◌<◌, List, [], ◌∷◌, ◌++◌, length, take, Bool}
use Rattle.hc_lines.proofs.Common.{true, false, ◌&&◌, ◌==◌, nat_eq, refl, sym, ◌∙◌, ap, arith}
use Rattle.hc_lines.proofs.Common.{true≢false, backslash, ends_with, lf, space, tab, is_blank, is_lf, from_first}
use Rattle.hc_lines.proofs.Common.{is_join, is_nothing, joins, up_to_last}
use Rattle.std.proofs.lemmas.Bool.Decides.{nat_tests}
use Rattle.hc_lines.proofs.Ends.{ends_with-split, joins-later, joins-split}

and_false : (v : Bool) → (v && false) ≡ false
and_false true = refl
and_false false = refl

same_eq : (a b : ℕ) → nat_eq a b ≡ nat_eq b a
same_eq a b = grind (arith, nat_tests)

join-is : (b c : ℕ) → is_join b c ≡ joins (b ∷ c ∷ [])
join-is b c = rw (same_eq b backslash, same_eq c lf) (and_end (nat_eq backslash b) (nat_eq lf c)) where
  and_end : (v w : Bool) → (v && w) ≡ (v && (w && true))
  and_end true true = refl
  and_end true false = refl
  and_end false w = refl

-- A tail that is nothing but blanks and joins, and whose first byte no backslash joins.
record IsLoose (b : ℕ) (tail : List ℕ) : Type 0 where
  nothing : is_nothing (from_first (b ∷ tail)) ≡ true
  apart : is_lf b ≡ false

front_one : (y b : ℕ) (tail : List ℕ) (v : Bool) → is_blank y ≡ v → IsLoose b tail
    → is_nothing (from_first (y ∷ b ∷ tail)) ≡ is_nothing (from_first (y ∷ []))
front_one y b tail true e loose = rw e loose.nothing
front_one y b tail false e loose = rw (e, loose.apart, and_false (y == backslash)) refl

front_two : (y z : ℕ) (ys : List ℕ) (b : ℕ) (tail : List ℕ) (v w : Bool) → is_blank y ≡ v
    → is_join y z ≡ w → is_nothing (from_first (z ∷ ys ++ b ∷ tail)) ≡ is_nothing (from_first (z ∷ ys))
    → is_nothing (from_first (ys ++ b ∷ tail)) ≡ is_nothing (from_first ys)
    → is_nothing (from_first (y ∷ z ∷ ys ++ b ∷ tail)) ≡ is_nothing (from_first (y ∷ z ∷ ys))
front_two y z ys b tail true w e f one two = rw e one
front_two y z ys b tail false true e f one two = rw (e, f) two
front_two y z ys b tail false false e f one two = rw (e, f) refl

-- such a tail changes nothing in front of it
loose-front : (ys : List ℕ) (b : ℕ) (tail : List ℕ) → IsLoose b tail
    → is_nothing (from_first (ys ++ b ∷ tail)) ≡ is_nothing (from_first ys)
loose-front [] b tail loose = loose.nothing
loose-front (y ∷ []) b tail loose = front_one y b tail _ refl loose
loose-front (y ∷ z ∷ ys) b tail loose = front_two y z ys b tail _ _ refl refl (loose-front (z ∷ ys) b tail loose)
    (loose-front ys b tail loose)

loose_step : (x : ℕ) (xs : List ℕ) (b : ℕ) (tail : List ℕ) (v : Bool) → is_nothing (from_first (x ∷ xs))
    ≡ v → IsLoose b tail → up_to_last (xs ++ b ∷ tail) ≡ up_to_last xs → up_to_last (x ∷ xs ++ b ∷ tail)
    ≡ up_to_last (x ∷ xs)
loose_step x xs b tail true e loose more = rw (loose-front (x ∷ xs) b tail loose, e) refl
loose_step x xs b tail false e loose more = rw (loose-front (x ∷ xs) b tail loose, e) (ap (λ l. x ∷ l) more)

up_to_last-loose : (xs : List ℕ) (b : ℕ) (tail : List ℕ) → IsLoose b tail → up_to_last (xs ++ b ∷ tail)
    ≡ up_to_last xs
up_to_last-loose [] b tail loose = rw loose.nothing refl
up_to_last-loose (x ∷ xs) b tail loose = loose_step x xs b tail _ refl loose (up_to_last-loose xs b tail loose)

pub up_to_last-blank : (byte : ℕ) (bs : List ℕ) → is_blank byte ≡ true → is_lf byte ≡ false
    → ends_with byte bs ≡ true → up_to_last bs ≡ up_to_last (take (length bs - 1) bs)
up_to_last-blank byte bs blank apart is = ap up_to_last (ends_with-split byte bs is)
    ∙ up_to_last-loose (take (length bs - 1) bs) byte [] (record { nothing = rw blank refl; apart = apart })

pub up_to_last-join : (bs : List ℕ) → joins bs ≡ true → up_to_last bs ≡ up_to_last (take (length bs - 2) bs)
up_to_last-join bs is = ap up_to_last (joins-split bs is) ∙ up_to_last-loose (take (length bs - 2) bs) backslash
    (lf ∷ []) (record { nothing = refl; apart = refl })

-- The last byte is neither a blank nor of a join.
pub record IsTight (bs : List ℕ) : Type 0 where
  pub no_space : ends_with space bs ≡ false
  pub no_tab : ends_with tab bs ≡ false
  pub no_join : joins bs ≡ false

tight-blank : (b : ℕ) → IsTight (b ∷ []) → is_blank b ≡ false
tight-blank b tight = rw (tight.no_space, tight.no_tab) refl

joins-single : (b : ℕ) → joins (b ∷ []) ≡ false
joins-single b = and_false (nat_eq backslash b)

tight-tail : (b : ℕ) (bs : List ℕ) → 0 < length bs → IsTight (b ∷ bs) → IsTight bs
tight-tail b [] some tight = absurd (omega arith)
tight-tail b (c ∷ []) some tight =
    record { no_space = tight.no_space; no_tab = tight.no_tab; no_join = joins-single c }
tight-tail b (c ∷ d ∷ bs) some tight =
    record { no_space = tight.no_space; no_tab = tight.no_tab; no_join = sym (joins-later b c d bs) ∙ tight.no_join }

tight-step : (b c : ℕ) (bs : List ℕ) (v w : Bool) → is_blank b ≡ v → is_join b c ≡ w
    → is_nothing (from_first (c ∷ bs)) ≡ false → (w ≡ true → is_nothing (from_first bs) ≡ false)
    → is_nothing (from_first (b ∷ c ∷ bs)) ≡ false
tight-step b c bs true w e f one two = rw e one
tight-step b c bs false true e f one two = rw (e, f) (two refl)
tight-step b c bs false false e f one two = rw (e, f) refl

tight-filled : (bs : List ℕ) → 0 < length bs → IsTight bs → is_nothing (from_first bs) ≡ false
tight-filled [] some tight = absurd (omega arith)
tight-filled (b ∷ []) some tight = rw (tight-blank b tight) refl
tight-filled (b ∷ c ∷ []) some tight =
    tight-step b c [] _ _ refl refl
    (tight-filled (c ∷ []) (omega arith) (tight-tail b (c ∷ []) (omega arith) tight))
    (λ join. absurd (true≢false (sym join ∙ join-is b c ∙ tight.no_join)))
tight-filled (b ∷ c ∷ d ∷ bs) some tight =
    let later = tight-tail b (c ∷ d ∷ bs) (omega arith) tight in
    tight-step b c (d ∷ bs) _ _ refl refl (tight-filled (c ∷ d ∷ bs) (omega arith) later)
    (λ join. tight-filled (d ∷ bs) (omega arith) (tight-tail c (d ∷ bs) (omega arith) later))

pub up_to_last-tight : (bs : List ℕ) → IsTight bs → up_to_last bs ≡ bs
up_to_last-tight [] tight = refl
up_to_last-tight (b ∷ []) tight = rw (tight-filled (b ∷ []) (omega arith) tight) refl
up_to_last-tight (b ∷ c ∷ bs) tight =
    rw (tight-filled (b ∷ c ∷ bs) (omega arith) tight)
    (ap (λ l. b ∷ l) (up_to_last-tight (c ∷ bs) (tight-tail b (c ∷ bs) (omega arith) tight)))
