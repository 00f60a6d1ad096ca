-- The words of a line, one after another.
use Rattle.std.proofs.Common.{◌≡◌, ℕ, zero, suc, ◌+◌, ◌<◌, ◌≤◌, ◌==◌, nat_lt, List, []}
use Rattle.std.proofs.Common.{◌∷◌, length, take, drop, filter, position, Bool, true, false, not, cond, Some, None}
use Rattle.std.proofs.Common.{refl, sym, ap, ◌∙◌, arith}
use Rattle.std.specs.List.{after_first, before_first, onto_first, position_or_len, slice_split}
use Rattle.std.proofs.lemmas.Bool.{ltb-false, ltb-true}
use Rattle.std.proofs.lemmas.List.{drop-drop, drop_all, length-drop, take_all}
use Rattle.hc_base.specs.Lines.{between_blanks, is_blank}

-- ---- places

place_is : (n len : ℕ) (v : Bool) (place : ℕ) → nat_lt n len ≡ v → cond v (Some n) None ≡ Some place
    → (n ≡ place) × (n < len)
place_is n len true place e is = (cc, omega (arith, ltb-true n len e))
place_is n len false place e is = absurd (cc is)

none_is : (n len : ℕ) (v : Bool) → nat_lt n len ≡ v → cond v (Some n) None ≡ None → len ≤ n
none_is n len true e is = absurd (cc is)
none_is n len false e is = omega (arith, ltb-false n len e)

placed : {A : Type 0} (p : A → Bool) (xs : List A) (place : ℕ) → position p xs ≡ Some place
    → (position_or_len p xs ≡ place) × (position_or_len p xs < length xs)
placed p xs place is = place_is (position_or_len p xs) (length xs) _ place refl is

placed_nowhere : {A : Type 0} (p : A → Bool) (xs : List A) → position p xs ≡ None
    → length xs ≤ position_or_len p xs
placed_nowhere p xs is = none_is (position_or_len p xs) (length xs) _ refl is

-- What stands before and behind the place.
pub cut_there : {A : Type 0} (p : A → Bool) (xs : List A) (place : ℕ) → position p xs ≡ Some place
    → (before_first p xs ≡ take place xs) × (after_first p xs ≡ drop 1 (drop place xs))
cut_there p xs place is =
    let e = (placed p xs place is).0 in
    (ap (λ n. take n xs) e, ap (λ n. drop (n + 1) xs) e ∙ sym (drop-drop 1 place xs))

pub cut_nowhere : {A : Type 0} (p : A → Bool) (xs : List A) → position p xs ≡ None → (before_first p xs ≡ xs)
    × (after_first p xs ≡ [])
cut_nowhere p xs is =
    let le = placed_nowhere p xs is in
    (take_all (position_or_len p xs) xs le, drop_all (position_or_len p xs + 1) xs (omega arith))

-- ---- blanks before words

abbrev is_other : ℕ → Bool
is_other b = not (is_blank b)

-- How many blanks a line begins with.
abbrev indent : List ℕ → ℕ
indent line = position_or_len is_other line

indented : (b : ℕ) (bs : List ℕ) (v : Bool) → is_blank b ≡ v
    → between_blanks bs ≡ between_blanks (drop (indent bs) bs)
    → between_blanks (b ∷ bs) ≡ between_blanks (drop (indent (b ∷ bs)) (b ∷ bs))
indented b bs true e more = let one : 1 + indent bs ≡ suc (indent bs) = omega arith in rw (e, one) more
indented b bs false e more = rw (e, e) refl

behind_indent : (line : List ℕ) → between_blanks line ≡ between_blanks (drop (indent line) line)
behind_indent [] = refl
behind_indent (b ∷ bs) = indented b bs (is_blank b) refl (behind_indent bs)

pub no_words : (line : List ℕ) → position is_other line ≡ None → between_blanks line ≡ []
no_words line none = behind_indent line
    ∙ ap between_blanks (drop_all (indent line) line (placed_nowhere is_other line none))

-- A word begins behind the blanks.
word_begins : (b : ℕ) (bs : List ℕ) (v : Bool) → is_blank b ≡ v
    → (0 < length (drop (indent bs) bs) → 0 < position_or_len is_blank (drop (indent bs) bs))
    → 0 < length (drop (indent (b ∷ bs)) (b ∷ bs))
    → 0 < position_or_len is_blank (drop (indent (b ∷ bs)) (b ∷ bs))
word_begins b bs true e more =
    let one : 1 + indent bs ≡ suc (indent bs) = omega arith in rw (e, one) more
word_begins b bs false e more = rw e (λ some. rw e (omega arith))

some_word : (line : List ℕ) → 0 < length (drop (indent line) line)
    → 0 < position_or_len is_blank (drop (indent line) line)
some_word [] some = absurd (omega arith)
some_word (b ∷ bs) some = word_begins b bs (is_blank b) refl (some_word bs) some

-- ---- the first word

abbrev is_word : List ℕ → Bool
is_word word = not (length word == 0)

-- The first piece, and those behind it.
abbrev Cut : List ℕ → Type 0
Cut words = (rest : List (List ℕ)) × (slice_split is_blank words ≡ before_first is_blank words ∷ rest)
    × (filter is_word rest ≡ between_blanks (after_first is_blank words))

cut_at : (b : ℕ) (bs : List ℕ) (v : Bool) → is_blank b ≡ v → Cut bs → Cut (b ∷ bs)
cut_at b bs true e more = (slice_split is_blank bs, rw e refl, rw e refl)
cut_at b bs false e more =
    let one : 1 + position_or_len is_blank bs ≡ suc (position_or_len is_blank bs) = omega arith in
    let two : 1 + position_or_len is_blank bs + 1 ≡ suc (position_or_len is_blank bs + 1) = omega arith in
    (more.0, rw (e, one) (ap (onto_first b) more.1), rw (e, two) more.2)

cut : (words : List ℕ) → Cut words
cut [] = ([], refl, refl)
cut (b ∷ bs) = cut_at b bs (is_blank b) refl (cut bs)

is_word-take : (n : ℕ) (words : List ℕ) → 0 < n → 0 < length words → is_word (take n words) ≡ true
is_word-take zero words some more = absurd (omega arith)
is_word-take (suc n) [] some more = absurd (omega arith)
is_word-take (suc n) (b ∷ bs) some more = grind (arith)

kept : (word : List ℕ) (rest : List (List ℕ)) → is_word word ≡ true → filter is_word (word ∷ rest)
    ≡ word ∷ filter is_word rest
kept word rest e = rw e refl

first_cut : (line : List ℕ) → 0 < length (drop (indent line) line)
    → between_blanks line ≡ before_first is_blank (drop (indent line) line) ∷ between_blanks
    (after_first is_blank (drop (indent line) line))
first_cut line some =
    let words = drop (indent line) line in
    let parts = cut words in
    behind_indent line ∙ ap (filter is_word) parts.1
    ∙ kept (before_first is_blank words) parts.0
    (is_word-take (position_or_len is_blank words) words (some_word line some) some)
    ∙ ap (λ rest. before_first is_blank words ∷ rest) parts.2

pub first_of_words : (line : List ℕ) (start : ℕ) → position is_other line ≡ Some start
    → between_blanks line ≡ before_first is_blank (drop start line) ∷ between_blanks
    (after_first is_blank (drop start line))
first_of_words line start is =
    let at = placed is_other line start is in
    let some : 0 < length (drop (indent line) line) = omega (arith, length-drop (indent line) line, at.1) in
    rw (sym at.0) (first_cut line some)
