-- Whole lines and what follows them, under `++`.
use Rattle.std.proofs.Common.{◌≡◌, ℕ, zero, suc, ◌<◌, ◌≤◌, List, [], ◌∷◌, ◌++◌, length}
use Rattle.std.proofs.Common.{take, drop, slice_index, Bool, true, false, ◌||◌, refl, sym, ap, ◌∙◌}
use Rattle.std.proofs.Common.{append_assoc, true≢false, eqb-true, arith}
use Rattle.std.specs.List.{flat_map, list_any}
use Rattle.std.proofs.Math.Bool.{or-true}
use Rattle.std.proofs.lemmas.Bool.{false_from_ne_true}
use Rattle.hc_base.specs.Lines.{HasNoLf, IsCutInto, AreLinesOf, is_lf, onto_line, whole_lines, rest_of}

or_left : (a b : Bool) → (a || b) ≡ false → a ≡ false
or_left true b h = h
or_left false b h = refl

or_right : (a b : Bool) → (a || b) ≡ false → b ≡ false
or_right true b h = absurd (true≢false h)
or_right false b h = h

any_lf : (a b : List ℕ) → list_any is_lf (a ++ 10 ∷ b) ≡ true
any_lf [] b = refl
any_lf (x ∷ xs) b = rw (any_lf xs b) (or-true (is_lf x))

-- Without an LF there is no whole line, and all is left.
pub whole_lines-none : (bytes : List ℕ) → HasNoLf bytes → whole_lines bytes ≡ []
whole_lines-none [] none = refl
whole_lines-none (b ∷ bs) none =
    rw (or_left (is_lf b) _ none) (ap (onto_line b) (whole_lines-none bs (or_right (is_lf b) _ none)))

pub rest_of-none : (bytes : List ℕ) → HasNoLf bytes → rest_of bytes ≡ bytes
rest_of-none [] none = refl
rest_of-none (b ∷ bs) none = rw none refl

rest_step : (b : ℕ) (bs : List ℕ) (v : Bool) → (is_lf b || list_any is_lf bs) ≡ v → HasNoLf (rest_of bs)
    × (length (rest_of bs) ≤ length bs) → HasNoLf (rest_of (b ∷ bs))
    × (length (rest_of (b ∷ bs)) ≤ length (b ∷ bs))
rest_step b bs true e later = rw e (later.0, omega (arith, later.1))
rest_step b bs false e later = rw e (e, omega arith)

-- What follows the last LF has none, and is no longer than all.
pub rest_of-none_longer : (bytes : List ℕ) → HasNoLf (rest_of bytes) × (length (rest_of bytes) ≤ length bytes)
rest_of-none_longer [] = (refl, omega arith)
rest_of-none_longer (b ∷ bs) = rest_step b bs _ refl (rest_of-none_longer bs)

-- A line, its LF, and more.
pub whole_lines-line : (line more : List ℕ) → HasNoLf line → whole_lines (line ++ 10 ∷ more)
    ≡ line ∷ whole_lines more
whole_lines-line [] more none = refl
whole_lines-line (b ∷ bs) more none =
    rw (or_left (is_lf b) _ none) (ap (onto_line b) (whole_lines-line bs more (or_right (is_lf b) _ none)))

pub rest_of-line : (line more : List ℕ) → rest_of (line ++ 10 ∷ more) ≡ rest_of more
rest_of-line [] more = refl
rest_of-line (b ∷ bs) more = rw (any_lf bs more, or-true (is_lf b)) (rest_of-line bs more)

onto_line-append : (b : ℕ) (ls ms : List (List ℕ)) → 0 < length ls
    → onto_line b (ls ++ ms) ≡ onto_line b ls ++ ms
onto_line-append b [] ms some = absurd (omega arith)
onto_line-append b (l ∷ ls) ms some = refl

some_more : (b : ℕ) (ls : List (List ℕ)) → 0 < length ls → 0 < length (onto_line b ls)
some_more b [] some = some
some_more b (l ∷ ls) some = omega arith

some_step : (b : ℕ) (bs : List ℕ) (v : Bool) → is_lf b ≡ v → (v || list_any is_lf bs) ≡ true
    → (list_any is_lf bs ≡ true → 0 < length (whole_lines bs)) → 0 < length (whole_lines (b ∷ bs))
some_step b bs true e any later = rw e (omega arith)
some_step b bs false e any later = rw e (some_more b (whole_lines bs) (later any))

some_line : (bytes : List ℕ) → list_any is_lf bytes ≡ true → 0 < length (whole_lines bytes)
some_line [] any = absurd (true≢false (sym any))
some_line (b ∷ bs) any = some_step b bs _ refl any (some_line bs)

any_more : (xs b : List ℕ) → list_any is_lf xs ≡ true → list_any is_lf (xs ++ b) ≡ true
any_more [] b any = absurd (true≢false (sym any))
any_more (x ∷ xs) b any = any_step (is_lf x) (list_any is_lf xs) (list_any is_lf (xs ++ b)) any (any_more xs b) where
  any_step : (v w z : Bool) → (v || w) ≡ true → (w ≡ true → z ≡ true) → (v || z) ≡ true
  any_step true w z h later = refl
  any_step false w z h later = later h

-- More bytes continue the line that has not ended.
abbrev Continues : List ℕ → List ℕ → Type 0
Continues a b = (whole_lines (a ++ b) ≡ whole_lines a ++ whole_lines (rest_of a ++ b))
    × (rest_of (a ++ b) ≡ rest_of (rest_of a ++ b))

continues_step : (x : ℕ) (xs b : List ℕ) (v w : Bool) → is_lf x ≡ v → list_any is_lf xs ≡ w
    → Continues xs b → Continues (x ∷ xs) b
continues_step x xs b true w e f later = (rw e (ap (λ ls. [] ∷ ls) later.0), rw e later.1)
continues_step x xs b false true e f later = (
  rw (e, f) (ap (onto_line x) later.0 ∙ onto_line-append x (whole_lines xs) _ (some_line xs f)),
  rw (e, f, any_more xs b f) later.1,
)
continues_step x xs b false false e f later = (rw (e, f, whole_lines-none xs f) (rw e refl), rw (e, f) (rw e refl))

continues : (a b : List ℕ) → Continues a b
continues [] b = (refl, refl)
continues (x ∷ xs) b = continues_step x xs b _ _ refl refl (continues xs b)

pub whole_lines-append : (a b : List ℕ) → whole_lines (a ++ b) ≡ whole_lines a ++ whole_lines (rest_of a ++ b)
whole_lines-append a b = (continues a b).0

pub rest_of-append : (a b : List ℕ) → rest_of (a ++ b) ≡ rest_of (rest_of a ++ b)
rest_of-append a b = (continues a b).1

-- ---- the first LF, as a search finds it

-- No byte before n is LF.
pub HasNoLf-take : (bytes : List ℕ) (n : ℕ)
    → ((k : ℕ) → k < n → k < length bytes → is_lf (slice_index bytes k) ≡ true → ⊥)
    → HasNoLf (take n bytes)
HasNoLf-take bytes zero none = refl
HasNoLf-take [] (suc n) none = refl
HasNoLf-take (b ∷ bs) (suc n) none =
    rw (false_from_ne_true (is_lf b) (none 0 (omega arith) (omega arith)))
    (HasNoLf-take bs n (λ k below within is. none (suc k) (omega arith) (omega arith) is))

pub HasNoLf-append : (a b : List ℕ) → HasNoLf a → HasNoLf b → HasNoLf (a ++ b)
HasNoLf-append [] b first later = later
HasNoLf-append (x ∷ xs) b first later =
    rw (or_left (is_lf x) _ first) (HasNoLf-append xs b (or_right (is_lf x) _ first) later)

-- Bytes that have LF at a place.
pub at_lf : (bytes : List ℕ) (n : ℕ) → n < length bytes → is_lf (slice_index bytes n) ≡ true
    → bytes ≡ take n bytes ++ 10 ∷ drop 1 (drop n bytes)
at_lf [] n within is = absurd (omega arith)
at_lf (b ∷ bs) zero within is = ap (λ x. x ∷ bs) (eqb-true b 10 is)
at_lf (b ∷ bs) (suc n) within is = ap (λ l. b ∷ l) (at_lf bs n (omega arith) is)

-- Bytes that are what follows their last LF have none.
pub HasNoLf-from_rest_of : (bytes : List ℕ) → rest_of bytes ≡ bytes → HasNoLf bytes
HasNoLf-from_rest_of bytes same = rw same at (rest_of-none_longer bytes).0

-- ---- a text is its lines

cut_onto : (b : ℕ) (bs rest : List ℕ) (lines : List (List ℕ)) → 0 < length lines → is_lf b ≡ false
    → IsCutInto bs lines rest → IsCutInto (b ∷ bs) (onto_line b lines) rest
cut_onto b bs rest [] some apart cut = absurd (omega arith)
cut_onto b bs rest (line ∷ lines) some apart cut =
    record { whole = ap (λ l. b ∷ l) cut.whole; each = (rw apart cut.each.0, cut.each.1); last = cut.last }

cut_step : (b : ℕ) (bs : List ℕ) (v w : Bool) → is_lf b ≡ v → list_any is_lf bs ≡ w
    → IsCutInto bs (whole_lines bs) (rest_of bs)
    → IsCutInto (b ∷ bs) (whole_lines (b ∷ bs)) (rest_of (b ∷ bs))
cut_step b bs true w e f later =
    rw e (record {
      whole = ap (λ x. x ∷ bs) (eqb-true b 10 e) ∙ ap (λ l. 10 ∷ l) later.whole;
      each = (refl, later.each);
      last = later.last;
    })
cut_step b bs false true e f later = rw (e, f) (cut_onto b bs (rest_of bs) (whole_lines bs) (some_line bs f) e later)
cut_step b bs false false e f later =
    rw (e, f, whole_lines-none bs f) (record { whole = refl; each = tt; last = rw e f })

cut : (text : List ℕ) → IsCutInto text (whole_lines text) (rest_of text)
cut [] = record { whole = refl; each = tt; last = refl }
cut (b ∷ bs) = cut_step b bs _ _ refl refl (cut bs)

only_cut : (lines : List (List ℕ)) (text rest : List ℕ) → IsCutInto text lines rest
    → (lines ≡ whole_lines text) × (rest ≡ rest_of text)
only_cut [] text rest c = (
  sym (ap whole_lines c.whole ∙ whole_lines-none rest c.last),
  sym (ap rest_of c.whole ∙ rest_of-none rest c.last),
)
only_cut (line ∷ lines) text rest c =
    let more = flat_map (λ line. line ++ 10 ∷ []) lines ++ rest in
    let split : text ≡ line ++ 10 ∷ more =
    c.whole ∙ append_assoc (line ++ 10 ∷ []) (flat_map (λ line. line ++ 10 ∷ []) lines) rest
    ∙ append_assoc line (10 ∷ []) more in
    let later = only_cut lines more rest (record { whole = refl; each = c.each.1; last = c.last }) in (
      ap (λ ls. line ∷ ls) later.0 ∙ sym (ap whole_lines split ∙ whole_lines-line line more c.each.0),
      later.1 ∙ sym (ap rest_of split ∙ rest_of-line line more),
    )

pub are_lines_of : (text : List ℕ) → AreLinesOf text
are_lines_of text = record { cut = cut text; only = λ lines rest c. only_cut lines text rest c }
