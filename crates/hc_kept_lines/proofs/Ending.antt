-- Where a logical line ends: texts byte by byte.
use Rattle.std.proofs.Common.{◌≡◌, ℕ, zero, suc, ◌+◌, ◌-◌, ◌<◌, ◌≤◌, List, [], ◌∷◌}
use Rattle.std.proofs.Common.{◌++◌, length, take, slice_index_or}
use Rattle.std.proofs.Common.{Bool, true, false, not, ◌&&◌, ◌||◌, ◌==◌, nat_eq, refl, sym, ◌∙◌, ap, arith}
use Rattle.std.proofs.Common.{eqb-true}
use Rattle.std.proofs.Common.{true≢false, append-nil, cond, map, count_by, get_or}
use Rattle.std.specs.List.{concat}
use Rattle.std.proofs.Math.Bool.{or-true}
use Rattle.std.proofs.lemmas.Bool.Decides.{nat_tests}
use Rattle.std.proofs.lemmas.List.{map-append, take_all}
use Rattle.std.proofs.lemmas.List.Recursion.{is_count_by}
use Rattle.hc_base.specs.Bytes.{backslash, ends_with, lf}
use Rattle.hc_base.specs.Lines.{is_lf, onto_piece, pieces}
use Rattle.hc_lines.specs.Logical.{is_join, is_nothing, joins, onto_run, runs}
use Rattle.hc_kept_lines.specs.Edit.{is_ended, last_of, open_line}
use Rattle.hc_kept_lines.specs.Runs.{IsUncut}

-- ---- tests

and_false : (v : Bool) → (v && false) ≡ false
and_false true = refl
and_false false = refl

both : (v w : Bool) → (v && w) ≡ true → (v ≡ true) × (w ≡ true)
both true w h = (refl, h)
both false w h = absurd (true≢false (sym h))

same_eq : (a b : ℕ) → nat_eq a b ≡ nat_eq b a
same_eq a b = grind (arith, nat_tests)

joins-two : (b c : ℕ) → joins (b ∷ c ∷ []) ≡ is_join b c
joins-two b c = rw (same_eq b backslash, same_eq c lf) (and_end (nat_eq backslash b) (nat_eq lf c)) where
  and_end : (v w : Bool) → (v && (w && true)) ≡ (v && w)
  and_end true true = refl
  and_end true false = refl
  and_end false w = refl

joins-one : (b : ℕ) → joins (b ∷ []) ≡ false
joins-one b = and_false (nat_eq backslash b)

joins-later : (b c d : ℕ) (bs : List ℕ) → joins (b ∷ c ∷ d ∷ bs) ≡ joins (c ∷ d ∷ bs)
joins-later b c d bs =
    let e : suc (suc (suc (length bs))) - 2 ≡ suc (suc (suc (length bs)) - 2) = omega arith in rw e refl

-- a byte in front of a text that it doesn't join
joins-cons : (b c : ℕ) (bs : List ℕ) → is_join b c ≡ false → joins (b ∷ c ∷ bs) ≡ joins (c ∷ bs)
joins-cons b c [] apart = joins-two b c ∙ apart ∙ sym (joins-one c)
joins-cons b c (d ∷ bs) apart = joins-later b c d bs

-- an LF joins nothing
lf-apart : (b c : ℕ) → is_lf b ≡ true → is_join b c ≡ false
lf-apart b c is = rw (eqb-true b lf is) refl

join-lf : (b c : ℕ) → is_join b c ≡ true → is_lf c ≡ true
join-lf b c is = (both (b == backslash) (is_lf c) is).1

join-back : (b c : ℕ) → is_join b c ≡ true → is_lf b ≡ false
join-back b c is = rw (eqb-true b backslash (both (b == backslash) (is_lf c) is).0) refl

-- ---- ended texts

ended-one : (b : ℕ) → is_ended (b ∷ []) ≡ is_lf b
ended-one b = rw (joins-one b) (and_true (is_lf b)) where
  and_true : (v : Bool) → (v && true) ≡ v
  and_true true = refl
  and_true false = refl

ended-cons : (b c : ℕ) (bs : List ℕ) → is_join b c ≡ false → is_ended (b ∷ c ∷ bs) ≡ is_ended (c ∷ bs)
ended-cons b c bs apart = rw (joins-cons b c bs apart) refl

ended-later : (b c d : ℕ) (bs : List ℕ) → is_ended (b ∷ c ∷ d ∷ bs) ≡ is_ended (c ∷ d ∷ bs)
ended-later b c d bs = rw (joins-later b c d bs) refl

ended-join : (b c : ℕ) → is_join b c ≡ true → is_ended (b ∷ c ∷ []) ≡ false
ended-join b c join = rw (joins-two b c, join) (and_false (is_lf c))

ended-past : (b c d : ℕ) (bs : List ℕ) → is_join b c ≡ true
    → is_ended (b ∷ c ∷ d ∷ bs) ≡ is_ended (d ∷ bs)
ended-past b c d bs join = ended-later b c d bs ∙ ended-cons c d bs (lf-apart c d (join-lf b c join))

ended-tail : (b : ℕ) (bs : List ℕ) → is_ended (b ∷ bs) ≡ true → is_ended bs ≡ true
ended-tail b [] is = refl
ended-tail b (c ∷ []) is = ended-one c ∙ (both (is_lf c) _ is).0
ended-tail b (c ∷ d ∷ bs) is = sym (ended-later b c d bs) ∙ is

-- what stands at the end of an ended text is ended
pub ended-back : (front back : List ℕ) → is_ended (front ++ back) ≡ true → is_ended back ≡ true
ended-back [] back is = is
ended-back (b ∷ front) back is = ended-back front back (ended-tail b (front ++ back) is)

-- behind an ended text, another one is ended where it is by itself
pub ended-behind : (front : List ℕ) (b : ℕ) (back : List ℕ) → is_ended front ≡ true
    → is_ended (front ++ b ∷ back) ≡ is_ended (b ∷ back)
ended-behind [] b back is = refl
ended-behind (a ∷ []) b back is = ended-cons a b back (lf-apart a b (sym (ended-one a) ∙ is))
ended-behind (a ∷ c ∷ []) b back is = ended-later a c b back
    ∙ ended-behind (c ∷ []) b back (ended-tail a (c ∷ []) is)
ended-behind (a ∷ c ∷ d ∷ front) b back is = ended-later a c d (front ++ b ∷ back)
    ∙ ended-behind (c ∷ d ∷ front) b back (ended-tail a (c ∷ d ∷ front) is)

-- Of a text in front, its last byte alone matters, and only before a single byte.
ended-two : (front : List ℕ) (b c : ℕ) (back : List ℕ)
    → is_ended (front ++ b ∷ c ∷ back) ≡ is_ended (b ∷ c ∷ back)
ended-two [] b c back = refl
ended-two (a ∷ []) b c back = ended-later a b c back
ended-two (a ∷ d ∷ []) b c back = ended-later a d b (c ∷ back) ∙ ended-two (d ∷ []) b c back
ended-two (a ∷ d ∷ e ∷ front) b c back = ended-later a d e (front ++ b ∷ c ∷ back)
    ∙ ended-two (d ∷ e ∷ front) b c back

ended-last : (front : List ℕ) (b : ℕ) → is_ended (front ++ b ∷ []) ≡ (is_lf b && not (ends_with backslash front))
ended-last [] b = ended-one b ∙ sym (and_true (is_lf b)) where
  and_true : (v : Bool) → (v && true) ≡ v
  and_true true = refl
  and_true false = refl
ended-last (a ∷ []) b = rw (joins-two a b) (by (is_lf b) (a == backslash)) where
  by : (v w : Bool) → (v && not (w && v)) ≡ (v && not w)
  by true true = refl
  by true false = refl
  by false w = refl
ended-last (a ∷ c ∷ []) b = ended-later a c b [] ∙ ended-last (c ∷ []) b
ended-last (a ∷ c ∷ d ∷ front) b = ended-later a c d (front ++ b ∷ []) ∙ ended-last (c ∷ d ∷ front) b

pub one_behind : (front back : List ℕ) → length back ≡ 1 → (v : Bool) → is_lf (slice_index_or back 0 0) ≡ v
    → is_ended (front ++ back) ≡ (v && not (ends_with backslash front))
one_behind front [] size v e = absurd (omega (arith, size))
one_behind front (b ∷ []) size v e = ended-last front b ∙ ap (λ w. w && not (ends_with backslash front)) e
one_behind front (b ∷ c ∷ back) size v e = absurd (omega (arith, size))

pub lf_isnt : (b : ℕ) → (b ≡ lf → ⊥) → is_lf b ≡ false
lf_isnt b isnt = by _ refl
  where
    by : (v : Bool) → is_lf b ≡ v → is_lf b ≡ false
    by true e = absurd (isnt (eqb-true b lf e))
    by false e = e

pub two_behind : (front back : List ℕ) → 2 ≤ length back → is_ended (front ++ back) ≡ is_ended back
two_behind front [] size = absurd (omega (arith, size))
two_behind front (b ∷ []) size = absurd (omega (arith, size))
two_behind front (b ∷ c ∷ back) size = ended-two front b c back

-- ---- the logical lines, byte by byte

abbrev onto_first : ℕ → List (List (List ℕ)) → List (List (List ℕ))
onto_first b [] = []
onto_first b (run ∷ runs) = onto_piece b run ∷ runs

record Begins (b : ℕ) (bs : List ℕ) : Type 0 where
  piece : List ℕ
  more : List (List ℕ)
  is : pieces (b ∷ bs) ≡ (b ∷ piece) ∷ more

begins : (b : ℕ) (bs : List ℕ) → Begins b bs
begins b bs = by (is_lf b) refl (pieces bs) refl
  where
    by : (v : Bool) → is_lf b ≡ v → (ps : List (List ℕ)) → pieces bs ≡ ps → Begins b bs
    by true e ps f = record { piece = []; more = pieces bs; is = rw e refl }
    by false e [] f = record { piece = []; more = []; is = rw (e, f) refl }
    by false e (p ∷ ps) f = record { piece = p; more = ps; is = rw (e, f) refl }

runs-lf : (b : ℕ) (bs : List ℕ) → is_lf b ≡ true → runs (pieces (b ∷ bs)) ≡ ((b ∷ []) ∷ []) ∷ runs
    (pieces bs)
runs-lf b bs is = rw (is, joins-one b) refl

pieces-join : (b c : ℕ) (bs : List ℕ) → is_join b c ≡ true
    → pieces (b ∷ c ∷ bs) ≡ (b ∷ c ∷ []) ∷ pieces bs
pieces-join b c bs join = rw (join-back b c join, join-lf b c join) refl

runs-join : (b c : ℕ) (bs : List ℕ) → is_join b c ≡ true
    → runs (pieces (b ∷ c ∷ bs)) ≡ onto_run (b ∷ c ∷ []) (runs (pieces bs))
runs-join b c bs join = rw (pieces-join b c bs join, joins-two b c, join) refl

runs-onto : (b : ℕ) (p : List ℕ) (ps : List (List ℕ)) → joins (b ∷ p) ≡ joins p
    → runs ((b ∷ p) ∷ ps) ≡ onto_first b (runs (p ∷ ps))
runs-onto b p ps same = rw same (by (joins p) (runs ps))
  where
    onto : (rs : List (List (List ℕ))) → onto_run (b ∷ p) rs ≡ onto_first b (onto_run p rs)
    onto [] = refl
    onto (r ∷ rs) = refl

    by : (v : Bool) (rs : List (List (List ℕ)))
        → cond v (onto_run (b ∷ p) rs) (((b ∷ p) ∷ []) ∷ rs)
        ≡ onto_first b (cond v (onto_run p rs) ((p ∷ []) ∷ rs))
    by true rs = onto rs
    by false rs = refl

runs-later : (b c : ℕ) (bs : List ℕ) → is_lf b ≡ false → is_join b c ≡ false
    → runs (pieces (b ∷ c ∷ bs)) ≡ onto_first b (runs (pieces (c ∷ bs)))
runs-later b c bs e apart =
    let first = begins c bs in
    let same : joins (b ∷ c ∷ first.piece) ≡ joins (c ∷ first.piece) = joins-cons b c first.piece apart in
    let here : pieces (b ∷ c ∷ bs) ≡ (b ∷ c ∷ first.piece) ∷ first.more = rw e (ap
    (onto_piece b) first.is) in
    ap runs here ∙ runs-onto b (c ∷ first.piece) first.more same
    ∙ sym (ap (λ ps. onto_first b (runs ps)) first.is)

-- ---- texts behind each other

some-onto : (p : List ℕ) (rs : List (List (List ℕ))) → 0 < length (onto_run p rs)
some-onto p [] = omega arith
some-onto p (r ∷ rs) = omega arith

some_step : (p : List ℕ) (ps : List (List ℕ)) (v : Bool) → joins p ≡ v → 0 < length (runs (p ∷ ps))
some_step p ps true e = rw e (some-onto p (runs ps))
some_step p ps false e = rw e (omega arith)

pub some_runs : (b : ℕ) (bs : List ℕ) → 0 < length (runs (pieces (b ∷ bs)))
some_runs b bs = let first = begins b bs in
    rw first.is (some_step (b ∷ first.piece) first.more _ refl)

onto_run-append : (p : List ℕ) (rs qs : List (List (List ℕ))) → 0 < length rs
    → onto_run p (rs ++ qs) ≡ onto_run p rs ++ qs
onto_run-append p [] qs some = absurd (omega arith)
onto_run-append p (r ∷ rs) qs some = refl

onto_first-append : (b : ℕ) (rs qs : List (List (List ℕ))) → 0 < length rs
    → onto_first b (rs ++ qs) ≡ onto_first b rs ++ qs
onto_first-append b [] qs some = absurd (omega arith)
onto_first-append b (r ∷ rs) qs some = refl

-- Behind an ended text, the logical lines are those that they are by themselves.
pub runs-append : (xs ys : List ℕ) → is_ended xs ≡ true
    → runs (pieces (xs ++ ys)) ≡ runs (pieces xs) ++ runs (pieces ys)
runs-append [] ys is = refl
runs-append (b ∷ []) ys is =
    let e = sym (ended-one b) ∙ is in rw (runs-lf b ys e, runs-lf b [] e) refl
runs-append (b ∷ c ∷ bs) ys is = by (is_join b c) (is_lf b) refl refl (λ h. runs-append bs ys h)
    (runs-append (c ∷ bs) ys (ended-tail b (c ∷ bs) is)) where
      joined : (bs : List ℕ) → is_join b c ≡ true → is_ended (b ∷ c ∷ bs) ≡ true
          → (is_ended bs ≡ true → runs (pieces (bs ++ ys)) ≡ runs (pieces bs) ++ runs (pieces ys))
          → runs (pieces (b ∷ c ∷ bs ++ ys)) ≡ runs (pieces (b ∷ c ∷ bs)) ++ runs (pieces ys)
      joined [] e is more = absurd (true≢false (sym is ∙ ended-join b c e))
      joined (d ∷ bs) e is more =
          runs-join b c (d ∷ bs ++ ys) e
          ∙ ap (onto_run (b ∷ c ∷ [])) (more (sym (ended-past b c d bs e) ∙ is))
          ∙ onto_run-append (b ∷ c ∷ []) (runs (pieces (d ∷ bs))) (runs (pieces ys)) (some_runs d bs)
          ∙ ap (λ rs. rs ++ runs (pieces ys)) (sym (runs-join b c (d ∷ bs) e))

      by : (v w : Bool) → is_join b c ≡ v → is_lf b ≡ w
          → (is_ended bs ≡ true → runs (pieces (bs ++ ys)) ≡ runs (pieces bs) ++ runs (pieces ys))
          → runs (pieces (c ∷ bs ++ ys)) ≡ runs (pieces (c ∷ bs)) ++ runs (pieces ys)
          → runs (pieces (b ∷ c ∷ bs ++ ys)) ≡ runs (pieces (b ∷ c ∷ bs)) ++ runs (pieces ys)
      by true w e f two one = joined bs e is two
      by false true e f two one =
          runs-lf b (c ∷ bs ++ ys) f
          ∙ ap (λ rs. ((b ∷ []) ∷ []) ∷ rs) one
          ∙ ap (λ rs. rs ++ runs (pieces ys)) (sym (runs-lf b (c ∷ bs) f))
      by false false e f two one =
          runs-later b c (bs ++ ys) f e
          ∙ ap (onto_first b) one
          ∙ onto_first-append b (runs (pieces (c ∷ bs))) (runs (pieces ys)) (some_runs c bs)
          ∙ ap (λ rs. rs ++ runs (pieces ys)) (sym (runs-later b c bs f e))

-- ---- one logical line

pub single-one : (b : ℕ) → runs (pieces (b ∷ [])) ≡ pieces (b ∷ []) ∷ []
single-one b = by (is_lf b) refl where
  by : (v : Bool) → is_lf b ≡ v → runs (pieces (b ∷ [])) ≡ pieces (b ∷ []) ∷ []
  by true e = rw (e, joins-one b) refl
  by false e = rw (e, joins-one b) refl

pub runs-single : (text : List ℕ) → 0 < length text → IsUncut text → runs (pieces text) ≡ pieces text ∷ []
runs-single [] some uncut = absurd (omega arith)
runs-single (b ∷ []) some uncut = single-one b
runs-single (b ∷ c ∷ bs) some uncut = by (is_join b c) (is_lf b) refl refl (λ h k. runs-single bs h k)
    (λ k. runs-single (c ∷ bs) (omega arith) k) where
      joined : (bs : List ℕ) → is_join b c ≡ true → IsUncut (b ∷ c ∷ bs)
          → (0 < length bs → IsUncut bs → runs (pieces bs) ≡ pieces bs ∷ [])
          → runs (pieces (b ∷ c ∷ bs)) ≡ pieces (b ∷ c ∷ bs) ∷ []
      joined [] e uncut more = runs-join b c [] e ∙ ap (λ ps. ps ∷ []) (sym (pieces-join b c [] e))
      joined (d ∷ bs) e uncut more =
          let later : IsUncut (d ∷ bs) = record { cut = λ k some within. past k some within } in
          runs-join b c (d ∷ bs) e ∙ ap (onto_run (b ∷ c ∷ [])) (more (omega arith) later)
          ∙ ap (λ ps. ps ∷ []) (sym (pieces-join b c (d ∷ bs) e))
        where
          past : (k : ℕ) → 0 < k → k < length (d ∷ bs) → is_ended (take k (d ∷ bs)) ≡ false
          past zero some within = absurd (omega arith)
          past (suc k) some within = sym (ended-past b c d (take k bs) e)
              ∙ uncut.cut (suc (suc (suc k))) (omega arith) (omega arith)

      later : is_join b c ≡ false → IsUncut (c ∷ bs)
      later e = record { cut = past } where
        past : (k : ℕ) → 0 < k → k < length (c ∷ bs) → is_ended (take k (c ∷ bs)) ≡ false
        past zero some within = absurd (omega arith)
        past (suc k) some within = sym (ended-cons b c (take k bs) e)
            ∙ uncut.cut (suc (suc k)) (omega arith) (omega arith)

      onto_is : is_lf b ≡ false → onto_piece b (pieces (c ∷ bs)) ≡ pieces (b ∷ c ∷ bs)
      onto_is f = rw f refl

      by : (v w : Bool) → is_join b c ≡ v → is_lf b ≡ w
          → (0 < length bs → IsUncut bs → runs (pieces bs) ≡ pieces bs ∷ [])
          → (IsUncut (c ∷ bs) → runs (pieces (c ∷ bs)) ≡ pieces (c ∷ bs) ∷ [])
          → runs (pieces (b ∷ c ∷ bs)) ≡ pieces (b ∷ c ∷ bs) ∷ []
      by true w e f two one = joined bs e uncut two
      by false true e f two one =
          absurd (true≢false (sym f ∙ sym (ended-one b) ∙ uncut.cut 1 (omega arith) (omega arith)))
      by false false e f two one = runs-later b c bs f e ∙ ap (onto_first b) (one (later e))
          ∙ ap (λ ps. ps ∷ []) (onto_is f)

-- ---- a text is its physical lines

concat-onto : (b : ℕ) (ps : List (List ℕ)) → concat (onto_piece b ps) ≡ b ∷ concat ps
concat-onto b [] = refl
concat-onto b (p ∷ ps) = refl

pub concat-pieces : (text : List ℕ) → concat (pieces text) ≡ text
concat-pieces [] = refl
concat-pieces (b ∷ bs) = by (is_lf b) refl (concat-pieces bs) where
  by : (v : Bool) → is_lf b ≡ v → concat (pieces bs) ≡ bs → concat (pieces (b ∷ bs)) ≡ b ∷ bs
  by true e more = rw e (ap (λ l. b ∷ l) more)
  by false e more = rw e (concat-onto b (pieces bs) ∙ ap (λ l. b ∷ l) more)

few-onto : (b : ℕ) (ps : List (List ℕ)) (n : ℕ) → length ps ≤ n → length (onto_piece b ps) ≤ suc n
few-onto b [] n few = omega arith
few-onto b (p ∷ ps) n few = omega arith

-- It has no more of them than bytes, and some where it has bytes.
pub few_pieces : (text : List ℕ) → length (pieces text) ≤ length text
few_pieces [] = omega arith
few_pieces (b ∷ bs) = by (is_lf b) refl (few_pieces bs) where
  by : (v : Bool) → is_lf b ≡ v → length (pieces bs) ≤ length bs
      → length (pieces (b ∷ bs)) ≤ suc (length bs)
  by true e more = rw e (omega arith)
  by false e more = rw e (few-onto b (pieces bs) (length bs) more)

-- ---- the open line

last_of-push : (lines : List (List ℕ)) (line : List ℕ) → last_of (lines ++ line ∷ []) ≡ line
last_of-push [] line = refl
last_of-push (a ∷ []) line = refl
last_of-push (a ∷ b ∷ lines) line = last_of-push (b ∷ lines) line

-- What stands behind the last place at which a logical line ends is the open line.
pub open_line-is : (front back : List ℕ) → is_ended front ≡ true
    → ((k : ℕ) → 0 < k → k ≤ length back → is_ended (front ++ take k back) ≡ false)
    → open_line (front ++ back) ≡ back
open_line-is front [] is none = rw (append-nil front, is) refl
open_line-is front (b ∷ back) is none = rw (all (length back) (take_all (length back) back (omega arith)))
    (ap (λ rs. last_of (map concat rs)) lines
    ∙ ap last_of (map-append concat (runs (pieces front)) (pieces (b ∷ back) ∷ []))
    ∙ last_of-push (map concat (runs (pieces front))) (concat (pieces (b ∷ back))) ∙ concat-pieces (b ∷ back))
  where
    all : (n : ℕ) → take n back ≡ back → is_ended (front ++ b ∷ back) ≡ false
    all n e = ap (λ bs. is_ended (front ++ b ∷ bs)) (sym (take_all (length back) back (omega arith)))
        ∙ none (suc (length back)) (omega arith) (omega arith)

    uncut : (k : ℕ) → 0 < k → k < length (b ∷ back) → is_ended (take k (b ∷ back)) ≡ false
    uncut zero some within = absurd (omega arith)
    uncut (suc k) some within = sym (ended-behind front b (take k back) is)
        ∙ none (suc k) (omega arith) (omega arith)

    lines : runs (pieces (front ++ b ∷ back)) ≡ runs (pieces front) ++ pieces (b ∷ back) ∷ []
    lines = runs-append front (b ∷ back) is
        ∙ ap (λ rs. runs (pieces front) ++ rs) (runs-single (b ∷ back) (omega arith) (record { cut = uncut }))

-- ---- physical lines are counted by their LFs

abbrev lfs : List ℕ → ℕ
lfs [] = 0
lfs (b ∷ bs) = cond (is_lf b) (1 + lfs bs) (lfs bs)

count_onto : (b : ℕ) (bs : List ℕ) → is_lf b ≡ false
    → length (pieces bs) ≡ lfs bs + cond (is_nothing bs || ends_with lf bs) 0 1
    → length (onto_piece b (pieces bs)) ≡ lfs bs + cond (ends_with lf (b ∷ bs)) 0 1
count_onto b [] e more = rw e refl
count_onto b (c ∷ bs) e more =
    let first = begins c bs in
    let size : length (pieces (c ∷ bs)) ≡ suc (length first.more) = ap length first.is in
    ap (λ ps. length (onto_piece b ps)) first.is ∙ sym size ∙ more

count-lfs : (text : List ℕ) → length (pieces text) ≡ lfs text + cond (is_nothing text || ends_with lf text) 0 1
count-lfs [] = refl
count-lfs (b ∷ bs) = by (is_lf b) refl (count-lfs bs) where
  last : (bs : List ℕ) → is_lf b ≡ true → (is_nothing bs || ends_with lf bs) ≡ ends_with lf (b ∷ bs)
  last [] e = sym e
  last (c ∷ bs) e = refl

  by : (v : Bool) → is_lf b ≡ v → length (pieces bs) ≡ lfs bs + cond (is_nothing bs || ends_with lf bs) 0 1
      → length (pieces (b ∷ bs)) ≡ lfs (b ∷ bs) + cond (ends_with lf (b ∷ bs)) 0 1
  by true e more = rw (← last bs e) (rw e (omega (arith, more)))
  by false e more = rw e (count_onto b bs e more)

-- Each LF ends one, and a last one may have none.
pub count-pieces : (text : List ℕ) → length (pieces text)
    ≡ count_by is_lf text + cond (is_nothing text || ends_with lf text) 0 1
count-pieces text = rw (← is_count_by lfs is_lf refl (λ x xs. refl) text) (count-lfs text)

pub count-ended : (text : List ℕ) → ends_with lf text ≡ true → length (pieces text) ≡ count_by is_lf text
count-ended text is = count-pieces text ∙ rw (is, or-true (is_nothing text)) (omega arith)

pub count-open : (text : List ℕ) (n : ℕ) → (length text == 0) ≡ false → ends_with lf text ≡ false
    → n ≡ count_by is_lf text → n + 1 ≡ length (pieces text)
count-open [] n some isnt e = absurd (true≢false some)
count-open (b ∷ bs) n some isnt e = ap (λ m. m + 1) e ∙ sym (count-pieces (b ∷ bs) ∙ rw isnt refl)

-- ---- the last byte

pub ended-lf : (bs : List ℕ) → is_ended bs ≡ true → 0 < length bs → get_or bs (length bs - 1) 0 ≡ lf
ended-lf [] is some = absurd (omega arith)
ended-lf (b ∷ []) is some = eqb-true b lf (sym (ended-one b) ∙ is)
ended-lf (b ∷ c ∷ bs) is some =
    let e : suc (suc (length bs)) - 1 ≡ suc (suc (length bs) - 1) = omega arith in
    rw e (ended-lf (c ∷ bs) (ended-tail b (c ∷ bs) is) (omega arith))
