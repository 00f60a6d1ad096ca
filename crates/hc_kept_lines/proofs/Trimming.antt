-- What a logical line says lies within it, between bytes of ASCII.
use Rattle.std.proofs.Common.{◌≡◌, ℕ, zero, suc, ◌+◌, ◌-◌, ◌<◌, ◌≤◌, List, [], ◌∷◌}
use Rattle.std.proofs.Common.{◌++◌, length, take, drop, get_or}
use Rattle.std.proofs.Common.{Bool, true, false, ◌&&◌, ◌==◌, refl, sym, ◌∙◌, ap, arith, lit<, eqb-true}
use Rattle.std.proofs.Common.{length-append}
use Rattle.std.proofs.Common.{add-one, append_assoc, append-nil, true≢false, slice_range, subst}
use Rattle.std.specs.Str.{IsCharBoundary, IsUtf8}
use Rattle.std.proofs.lemmas.List.{drop_at, get_or_append_left, get_or_at, take_at}
use Rattle.std.proofs.lemmas.Str.{IsCharBoundary-after_ascii, IsCharBoundary-before_ascii, IsCharBoundary-end}
use Rattle.std.proofs.lemmas.Str.{IsCharBoundary-start}
use Rattle.hc_base.proofs.Shared.{blank_ascii}
use Rattle.hc_base.specs.Bytes.{backslash, cr, ends_with, lf}
use Rattle.hc_base.specs.Lines.{is_blank, is_lf}
use Rattle.hc_lines.specs.Logical.{from_first, indent, is_join, is_nothing, size, source, up_to_last, without_end}
use Rattle.hc_lines.specs.Logical.{without_last}

abbrev pub AllAscii : List ℕ → Type 0
AllAscii [] = Unit {0}
AllAscii (b ∷ bs) = (b < 128) × AllAscii bs

AllAscii-append : (xs ys : List ℕ) → AllAscii xs → AllAscii ys → AllAscii (xs ++ ys)
AllAscii-append [] ys first second = second
AllAscii-append (x ∷ xs) ys first second = (first.0, AllAscii-append xs ys first.1 second)

-- A text is a part of it behind bytes of ASCII, or before them.
record IsBack (part bs : List ℕ) : Type 0 where
  front : List ℕ
  is : bs ≡ front ++ part
  ascii : AllAscii front

record IsFront (part bs : List ℕ) : Type 0 where
  back : List ℕ
  is : bs ≡ part ++ back
  ascii : AllAscii back

back-all : (bs : List ℕ) → IsBack bs bs
back-all bs = record { front = []; is = refl; ascii = tt }

back-cons : (b : ℕ) (part bs : List ℕ) → b < 128 → IsBack part bs → IsBack part (b ∷ bs)
back-cons b part bs small is =
    record { front = b ∷ is.front; is = ap (λ l. b ∷ l) is.is; ascii = (small, is.ascii) }

front-all : (bs : List ℕ) → IsFront bs bs
front-all bs = record { back = []; is = sym (append-nil bs); ascii = tt }

front-cons : (b : ℕ) (part bs : List ℕ) → IsFront part bs → IsFront (b ∷ part) (b ∷ bs)
front-cons b part bs is = record { back = is.back; is = ap (λ l. b ∷ l) is.is; ascii = is.ascii }

front-within : (part mid bs : List ℕ) → IsFront part mid → IsFront mid bs → IsFront part bs
front-within part mid bs f g = record {
  back = f.back ++ g.back;
  is = g.is ∙ ap (λ l. l ++ g.back) f.is ∙ append_assoc part f.back g.back;
  ascii = AllAscii-append f.back g.back f.ascii g.ascii;
}

-- ---- trims

join_ascii : (b c : ℕ) → is_join b c ≡ true → (b < 128) × (c < 128)
join_ascii b c is = by (b == backslash) (is_lf c) refl refl is where
  by : (v w : Bool) → (b == backslash) ≡ v → is_lf c ≡ w → (v && w) ≡ true → (b < 128) × (c < 128)
  by true true e f h = (rw (eqb-true b backslash e) (lit< tt), rw (eqb-true c lf f) (lit< tt))
  by true false e f h = cc
  by false w e f h = cc

from_first-one : (b : ℕ) (v : Bool) → is_blank b ≡ v → IsBack (from_first (b ∷ [])) (b ∷ [])
from_first-one b true e = rw e (back-cons b [] [] (blank_ascii b e) (back-all []))
from_first-one b false e = rw e (back-all (b ∷ []))

from_first-two : (b c : ℕ) (bs : List ℕ) (v w : Bool) → is_blank b ≡ v → is_join b c ≡ w
    → IsBack (from_first (c ∷ bs)) (c ∷ bs) → IsBack (from_first bs) bs
    → IsBack (from_first (b ∷ c ∷ bs)) (b ∷ c ∷ bs)
from_first-two b c bs true w e f one two = rw e (back-cons b (from_first (c ∷ bs)) (c ∷ bs) (blank_ascii b e) one)
from_first-two b c bs false true e f one two =
    let small = join_ascii b c f in
    rw (e, f) (back-cons b (from_first bs) (c ∷ bs) small.0 (back-cons c (from_first bs) bs small.1 two))
from_first-two b c bs false false e f one two = rw (e, f) (back-all (b ∷ c ∷ bs))

from_first-back : (bs : List ℕ) → IsBack (from_first bs) bs
from_first-back [] = back-all []
from_first-back (b ∷ []) = from_first-one b _ refl
from_first-back (b ∷ c ∷ bs) = from_first-two b c bs _ _ refl refl (from_first-back (c ∷ bs)) (from_first-back bs)

nothing_ascii : (part bs : List ℕ) → is_nothing part ≡ true → IsBack part bs → AllAscii bs
nothing_ascii [] bs none is = rw (is.is, append-nil is.front) is.ascii
nothing_ascii (p ∷ part) bs none is = absurd (true≢false (sym none))

up_to_last_step : (b : ℕ) (bs : List ℕ) (v : Bool) → is_nothing (from_first (b ∷ bs)) ≡ v
    → IsFront (up_to_last bs) bs → IsFront (up_to_last (b ∷ bs)) (b ∷ bs)
up_to_last_step b bs true e later =
    rw e (record { back = b ∷ bs; is = refl; ascii = nothing_ascii _ (b ∷ bs) e (from_first-back (b ∷ bs)) })
up_to_last_step b bs false e later = rw e (front-cons b (up_to_last bs) bs later)

up_to_last-front : (bs : List ℕ) → IsFront (up_to_last bs) bs
up_to_last-front [] = front-all []
up_to_last-front (b ∷ bs) = up_to_last_step b bs _ refl (up_to_last-front bs)

without_last-one : (byte b : ℕ) (v : Bool) → byte < 128 → (b == byte) ≡ v
    → IsFront (without_last byte (b ∷ [])) (b ∷ [])
without_last-one byte b true small e =
    rw e (record { back = b ∷ []; is = refl; ascii = (rw (eqb-true b byte e) small, tt) })
without_last-one byte b false small e = rw e (front-all (b ∷ []))

without_last-front : (byte : ℕ) (bs : List ℕ) → byte < 128 → IsFront (without_last byte bs) bs
without_last-front byte [] small = front-all []
without_last-front byte (b ∷ []) small = without_last-one byte b _ small refl
without_last-front byte (b ∷ c ∷ bs) small =
    front-cons b (without_last byte (c ∷ bs)) (c ∷ bs) (without_last-front byte (c ∷ bs) small)

without_end_step : (bs : List ℕ) (v : Bool) → ends_with lf bs ≡ v → IsFront (without_end bs) bs
without_end_step bs true e =
    rw e (front-within (without_last cr (without_last lf bs)) (without_last lf bs) bs
    (without_last-front cr (without_last lf bs) (lit< tt)) (without_last-front lf bs (lit< tt)))
without_end_step bs false e = rw e (front-all bs)

without_end-front : (bs : List ℕ) → IsFront (without_end bs) bs
without_end-front bs = without_end_step bs _ refl

-- ---- places between bytes

ascii-at : (bs : List ℕ) (k : ℕ) → AllAscii bs → k < length bs → get_or bs k 0 < 128
ascii-at [] k all within = absurd (omega arith)
ascii-at (b ∷ bs) zero all within = all.0
ascii-at (b ∷ bs) (suc k) all within = ascii-at bs k all.1 (omega arith)

behind_ascii : (front rest bs : List ℕ) → bs ≡ front ++ rest → AllAscii front → IsUtf8 bs
    → IsCharBoundary bs (length front)
behind_ascii [] rest bs e all whole = IsCharBoundary-start bs whole
behind_ascii (b ∷ front) rest bs e all whole =
    let size = ap length e ∙ length-append (b ∷ front) rest in
    let byte : get_or bs (length front) 0 < 128 =
    rw (e, get_or_append_left (b ∷ front) rest 0 (length front) (omega arith))
    (ascii-at (b ∷ front) (length front) all (omega arith)) in
    rw add-one at (IsCharBoundary-after_ascii bs (length front) whole (omega (arith, size)) byte)

before_ascii : (front back bs : List ℕ) → bs ≡ front ++ back → AllAscii back
    → IsCharBoundary bs (length front)
before_ascii front [] bs e all =
    rw (sym (ap length (e ∙ append-nil front))) (IsCharBoundary-end bs)
before_ascii front (b ∷ back) bs e all =
    let size = ap length e ∙ length-append front (b ∷ back) in
    IsCharBoundary-before_ascii bs (length front) (omega (arith, size))
    (rw (e, get_or_at front b back 0 (length front) refl) all.0)

-- What a logical line says stands at a place of it.
pub record IsSourceAt (line : List ℕ) (at : ℕ) : Type 0 where
  pub is : slice_range line at (at + length (source line)) ≡ source line
  pub within : at + length (source line) ≤ length line
  pub first : IsCharBoundary line at
  pub last : IsCharBoundary line (at + length (source line))

pub is_source : (line : List ℕ) → IsUtf8 line → IsSourceAt line (indent line)
is_source line whole =
    let f = without_end-front line in
    let g = from_first-back (without_end line) in
    let h = up_to_last-front (from_first (without_end line)) in
    let said = source line in
    let inner : from_first (without_end line) ≡ said ++ h.back = h.is in
    let e : line ≡ g.front ++ (said ++ (h.back ++ f.back)) =
    f.is ∙ ap (λ l. l ++ f.back) (g.is ∙ ap (λ l. g.front ++ l) inner)
    ∙ append_assoc g.front (said ++ h.back) f.back ∙ ap (λ l. g.front ++ l) (append_assoc said h.back f.back) in
    let at : indent line ≡ length g.front = omega (
      arith,
      ap length g.is,
      length-append g.front (from_first
          (without_end line)),
    ) in
    let two : length (g.front ++ said) ≡ length g.front + length said = length-append g.front said in
    let m : length g.front + length said - length g.front ≡ length said = omega arith in
    subst (IsSourceAt line) (sym at) (record {
      is = rw m (ap (take (length said)) (ap (drop (length g.front)) e
          ∙ drop_at g.front (said ++ (h.back ++ f.back)) (length g.front) refl)
          ∙ take_at said (h.back ++ f.back) (length said) refl);
      within = omega (
        arith,
        ap length e,
        length-append g.front (said ++ (h.back ++ f.back)),
        length-append said (h.back ++ f.back),
      );
      first = behind_ascii g.front (said ++ (h.back ++ f.back)) line e g.ascii whole;
      last = rw two at (before_ascii (g.front ++ said) (h.back ++ f.back) line
          (e ∙ sym (append_assoc g.front said (h.back ++ f.back))) (AllAscii-append h.back f.back h.ascii f.ascii));
    })

-- ---- without its end

pub without_last-ended : (byte : ℕ) (bs : List ℕ) → ends_with byte bs ≡ true
    → take (length bs - 1) bs ≡ without_last byte bs
without_last-ended byte [] is = refl
without_last-ended byte (b ∷ []) is = rw is refl
without_last-ended byte (b ∷ c ∷ bs) is =
    let e : suc (suc (length bs)) - 1 ≡ suc (suc (length bs) - 1) = omega arith in
    rw e (ap (λ l. b ∷ l) (without_last-ended byte (c ∷ bs) is))

pub without_last-same : (byte : ℕ) (bs : List ℕ) → ends_with byte bs ≡ false → bs ≡ without_last byte bs
without_last-same byte [] isnt = refl
without_last-same byte (b ∷ []) isnt = rw isnt refl
without_last-same byte (b ∷ c ∷ bs) isnt = ap (λ l. b ∷ l) (without_last-same byte (c ∷ bs) isnt)

-- a line has no larger size than bytes
pub size-within : (count : ℕ) (line : List ℕ) → size count line ≤ length line
size-within count line =
    let body = without_end-front line in
    omega (arith, ap length body.is, length-append (without_end line) body.back)
