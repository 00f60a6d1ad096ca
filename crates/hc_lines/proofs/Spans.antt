-- What is left of a text where bytes are taken off at its ends, and the spans of lines.
use Rattle.hc_lines.proofs.Common.{◌≡◌, ℕ, suc, ◌+◌, ◌-◌, ◌<◌, ◌≤◌, List, [], ◌∷◌}
use Rattle.hc_lines.proofs.Common.{◌++◌, length, take, drop, slice_range, Bool, true, false, not, ◌&&◌, refl}
use Rattle.hc_lines.proofs.Common.{sym, ◌∙◌, ap, arith, Option, Some, None, Result, Ok, Err, Vec, Global, IfOk}
use Rattle.hc_lines.proofs.Common.{true≢false, nat_eq, length-drop, length-append, drop-append-le, drop-drop}
use Rattle.hc_lines.proofs.Common.{drop-take, drop_at, take-append-le, take-take, concat, cr, ends_with, lf, is_blank}
use Rattle.hc_lines.proofs.Common.{pieces, AreSpansFrom, all_of, before, broken_by, from_first, indent, is_join}
use Rattle.hc_lines.proofs.Common.{is_nothing, line_of, lines_from, lines_of, read_as, runs, says_something, source}
use Rattle.hc_lines.proofs.Common.{then_lines, unjoined, up_to_last, without_end, without_last}
use Rattle.std.proofs.lemmas.List.Folds.{concat-append}
use Rattle.hc_lines.proofs.Pieces.{concat-pieces}
use Rattle.hc_lines.proofs.Runs.{runs-cut}
use Rattle.std.specs.Bool.{⊤}
use Rattle.hc_base.specs.Gives.{GivesList}
use Rattle.hc_base.specs.declared.fault.Fault.{Fault}
use Rattle.hc_base.specs.declared.fault.AtLine.{AtLine}
use Rattle.hc_lines.specs.declared.line.FileKind.{FileKind}
use Rattle.hc_lines.specs.declared.line.Line.{Line}

-- ---- fronts and backs

pub record IsFront (part bs : List ℕ) : Type 0 where
  pub is : part ≡ take (length part) bs
  pub shorter : length part ≤ length bs

front-nil : (bs : List ℕ) → IsFront [] bs
front-nil bs = record { is = refl; shorter = omega arith }

front-cons : (b : ℕ) (part bs : List ℕ) → IsFront part bs → IsFront (b ∷ part) (b ∷ bs)
front-cons b part bs f = record { is = ap (λ l. b ∷ l) f.is; shorter = omega (arith, f.shorter) }

front-all : (bs : List ℕ) → IsFront bs bs
front-all [] = front-nil []
front-all (b ∷ bs) = front-cons b bs bs (front-all bs)

front-within : (part : List ℕ) (mid bs : List ℕ) → IsFront part mid → IsFront mid bs → IsFront part bs
front-within [] mid bs f g = front-nil bs
front-within (p ∷ ps) [] bs f g = absurd (omega (arith, f.shorter))
front-within (p ∷ ps) (m ∷ ms) [] f g = absurd (omega (arith, g.shorter))
front-within (p ∷ ps) (m ∷ ms) (b ∷ bs) f g =
    let later = front-within ps ms bs (record { is = tail f.is; shorter = omega (arith, f.shorter) })
    (record { is = tail g.is; shorter = omega (arith, g.shorter) }) in
    let e : p ≡ b = head f.is ∙ head g.is in
    rw e (front-cons b ps bs later)
  where
    head : {a c : ℕ} {xs ys : List ℕ} → a ∷ xs ≡ c ∷ ys → a ≡ c
    head e = cc

    tail : {a c : ℕ} {xs ys : List ℕ} → a ∷ xs ≡ c ∷ ys → xs ≡ ys
    tail e = cc

pub record IsBack (part bs : List ℕ) : Type 0 where
  pub is : part ≡ drop (length bs - length part) bs
  pub shorter : length part ≤ length bs

back-all : (bs : List ℕ) → IsBack bs bs
back-all bs = let e : length bs - length bs ≡ 0 = omega arith in record { is = rw e refl; shorter = omega arith }

back-cons : (b : ℕ) (part bs : List ℕ) → IsBack part bs → IsBack part (b ∷ bs)
back-cons b part bs f =
    let e : suc (length bs) - length part ≡ suc (length bs - length part) = omega (arith, f.shorter) in
    record { is = rw e f.is; shorter = omega (arith, f.shorter) }

-- ---- trims

from_first-one : (b : ℕ) (v : Bool) → is_blank b ≡ v → IsBack (from_first (b ∷ [])) (b ∷ [])
from_first-one b true e = rw e (back-cons b [] [] (back-all []))
from_first-one b false e = rw e (back-all (b ∷ []))

from_first-two : (b c : ℕ) (bs : List ℕ) (v w : Bool) → is_blank b ≡ v → is_join b c ≡ w
    → IsBack (from_first (c ∷ bs)) (c ∷ bs) → IsBack (from_first bs) bs
    → IsBack (from_first (b ∷ c ∷ bs)) (b ∷ c ∷ bs)
from_first-two b c bs true w e f one two = rw e (back-cons b _ (c ∷ bs) one)
from_first-two b c bs false true e f one two = rw (e, f) (back-cons b _ (c ∷ bs) (back-cons c _ bs two))
from_first-two b c bs false false e f one two = rw (e, f) (back-all (b ∷ c ∷ bs))

pub from_first-back : (bs : List ℕ) → IsBack (from_first bs) bs
from_first-back [] = back-all []
from_first-back (b ∷ []) = from_first-one b _ refl
from_first-back (b ∷ c ∷ bs) = from_first-two b c bs _ _ refl refl (from_first-back (c ∷ bs)) (from_first-back bs)

up_to_last_step : (b : ℕ) (bs : List ℕ) (v : Bool) → is_nothing (from_first (b ∷ bs)) ≡ v
    → IsFront (up_to_last bs) bs → IsFront (up_to_last (b ∷ bs)) (b ∷ bs)
up_to_last_step b bs true e later = rw e (front-nil (b ∷ bs))
up_to_last_step b bs false e later = rw e (front-cons b _ bs later)

pub up_to_last-front : (bs : List ℕ) → IsFront (up_to_last bs) bs
up_to_last-front [] = front-nil []
up_to_last-front (b ∷ bs) = up_to_last_step b bs _ refl (up_to_last-front bs)

without_last-one : (byte b : ℕ) (v : Bool) → nat_eq b byte ≡ v
    → IsFront (without_last byte (b ∷ [])) (b ∷ [])
without_last-one byte b true e = rw e (front-nil (b ∷ []))
without_last-one byte b false e = rw e (front-all (b ∷ []))

without_last-front : (byte : ℕ) (bs : List ℕ) → IsFront (without_last byte bs) bs
without_last-front byte [] = front-nil []
without_last-front byte (b ∷ []) = without_last-one byte b _ refl
without_last-front byte (b ∷ c ∷ bs) = front-cons b _ (c ∷ bs) (without_last-front byte (c ∷ bs))

without_end_step : (bs : List ℕ) (v : Bool) → ends_with lf bs ≡ v → IsFront (without_end bs) bs
without_end_step bs true e =
    rw e (front-within _ _ bs (without_last-front cr (without_last lf bs)) (without_last-front lf bs))
without_end_step bs false e = rw e (front-all bs)

pub without_end-front : (bs : List ℕ) → IsFront (without_end bs) bs
without_end-front bs = without_end_step bs _ refl

-- ---- a line's source lies in its run

pub record LiesAt (part bs : List ℕ) (at : ℕ) : Type 0 where
  pub is : part ≡ take (length part) (drop at bs)
  pub within : at + length part ≤ length bs

pub source-lies : (bytes : List ℕ) → LiesAt (source bytes) bytes (indent bytes)
source-lies bytes =
    let body = without_end bytes in
    let inner = from_first body in
    let f = without_end-front bytes in
    let g = from_first-back body in
    let h = up_to_last-front inner in
    let k = indent bytes in
    let n : length body ≡ k + length inner = omega (arith, g.shorter) in
    let inner_is : inner ≡ take (length inner) (drop k bytes) =
    g.is ∙ ap (drop k) (f.is ∙ ap (λ m. take m bytes) n) ∙ drop-take k (length inner) bytes in
    let is : source bytes ≡ take (length (source bytes)) (drop k bytes) =
    h.is ∙ ap (take (length (source bytes))) inner_is ∙ take-take (length (source bytes)) (length inner)
    (drop k bytes) h.shorter in
    record { is = is; within = omega (arith, f.shorter, g.shorter, h.shorter, n) }

-- a part of a run is a part of the text
lies-in_text : (text bytes more part : List ℕ) (place at : ℕ) → place ≤ length text
    → drop place text ≡ bytes ++ more → LiesAt part bytes at → LiesAt part text (place + at)
lies-in_text text bytes more part place at inside whole lies =
    let m = length part in
    let e : drop (place + at) text ≡ drop at bytes ++ more = sym (drop-drop at place text) ∙ ap (drop at) whole
    ∙ drop-append-le at bytes more (omega (arith, lies.within)) in
    let fits : m ≤ length (drop at bytes) = omega (arith, lies.within, length-drop at bytes) in
    let sizes : length text - place ≡ length bytes + length more = sym (length-drop place text) ∙ ap length whole
    ∙ length-append bytes more in
    record {
      is = lies.is ∙ sym (ap (take m) e ∙ take-append-le m (drop at bytes) more fits);
      within = omega (arith, lies.within, sizes, inside);
    }

-- ---- spans in order

abbrev SpansOf : ℕ → List ℕ → Result (List Line) AtLine → Type 0
SpansOf from text (Ok lines) = AreSpansFrom from text lines
SpansOf from text (Err refusal) = ⊤

SpansOf-before : (from : ℕ) (text : List ℕ) (line : Line) (more : Result (List Line) AtLine)
    → (from ≤ line.span.start) × (line.span.start < line.span.end) × (line.span.end ≤ length text)
    × (line.text ≡ unjoined (slice_range text line.span.start line.span.end)) → SpansOf line.span.end text more
    → SpansOf from text (before (line ∷ []) more)
SpansOf-before from text line (Ok lines) own later = (own.0, own.1, own.2, own.3, later)
SpansOf-before from text line (Err refusal) own later = tt

filled : (bs : List ℕ) (v : Bool) → (not (is_nothing bs) && v) ≡ true → 0 < length bs
filled [] v is = absurd (true≢false (sym is))
filled (b ∷ bs) v is = omega arith

own_span : (text bytes more : List ℕ) (number place from : ℕ) → from ≤ place → place ≤ length text
    → drop place text ≡ bytes ++ more → says_something bytes ≡ true → let line = line_of number place bytes in
    (from ≤ line.span.start) × (line.span.start < line.span.end) × (line.span.end ≤ length text)
    × (line.text ≡ unjoined (slice_range text line.span.start line.span.end))
own_span text bytes more number place from later inside whole says =
    let lies = lies-in_text text bytes more (source bytes) place (indent bytes) inside whole (source-lies bytes) in
    let start = place + indent bytes in
    let m = length (source bytes) in
    let e : start + m - start ≡ m = omega arith in
    (omega arith, omega (arith, filled (source bytes) _ says), lies.within, rw e (ap unjoined lies.is))

spans_step : (text bytes more : List ℕ) (number place from : ℕ) (broken : Option ℕ) (v : Bool)
    (later : Result (List Line) AtLine) → says_something bytes ≡ v → from ≤ place → place ≤ length text
    → drop place text ≡ bytes ++ more
    → ((place' : ℕ) → place' ≤ place + length bytes → SpansOf place' text later)
    → SpansOf from text (then_lines (read_as broken v (line_of number place bytes)) later)
spans_step text bytes more number place from (Some code) v later says order inside whole next = tt
spans_step text bytes more number place from None false later says order inside whole next = next from (omega arith)
spans_step text bytes more number place from None true later says order inside whole next =
    SpansOf-before from text (line_of number place bytes) later
    (own_span text bytes more number place from order inside whole says)
    (next _ (let w = (source-lies bytes).within in omega (arith, w)))

spans_from : (file : FileKind) (text : List ℕ) (number place from : ℕ) (rs : List (List (List ℕ)))
    → from ≤ place → place ≤ length text → drop place text ≡ concat (all_of rs)
    → SpansOf from text (lines_from file number place rs)
spans_from file text number place from [] order inside whole = tt
spans_from file text number place from (run ∷ rs) order inside whole =
    let bytes = concat run in
    let more = concat (all_of rs) in
    let e : drop place text ≡ bytes ++ more = whole ∙ concat-append run (all_of rs) in
    let sizes : length text - place ≡ length bytes + length more = sym (length-drop place text) ∙ ap length e
    ∙ length-append bytes more in
    let rest : drop (place + length bytes) text ≡ more = sym (drop-drop (length bytes) place text)
    ∙ ap (drop (length bytes)) e ∙ drop_at bytes more (length bytes) refl in
    spans_step text bytes more number place from (broken_by file (length run) bytes) _ _ refl order inside e
    (λ place' h. spans_from file text (number + length run) (place + length bytes) place' rs h (omega (arith, sizes))
    rest)

pub spans : (file : FileKind) (text : List ℕ) → SpansOf 0 text (lines_of file text)
unfolding lines_of
spans file text = spans_from file text 1 0 0 (runs (pieces text)) (omega arith) (omega arith)
    (sym (ap concat (runs-cut (pieces text)).whole ∙ concat-pieces text))

pub spans-given : (file : FileKind) (text : List ℕ) (r : Result (Vec Line Global) (Fault AtLine))
    → GivesList r (lines_of file text) → IfOk r (λ lines. AreSpansFrom 0 text lines.items)
spans-given file text (Ok lines) is = rw is at (spans file text)
spans-given file text (Err fault) is = tt
