-- Kept logical lines, under texts that stand behind each other.
use Rattle.std.proofs.Common.{◌≡◌, ℕ, zero, suc, ◌+◌, ◌-◌, ◌<◌, ◌≤◌, List, [], ◌∷◌}
use Rattle.std.proofs.Common.{◌++◌, length, take, drop}
use Rattle.std.proofs.Common.{Bool, true, false, ◌||◌, nat_lt, refl, sym, ◌∙◌, ap, arith, subst, ltb-true}
use Rattle.std.proofs.Common.{ltb-false}
use Rattle.std.proofs.Common.{append-nil, length-append, length-drop}
use Rattle.std.proofs.Math.Bool.{or-true}
use Rattle.std.proofs.Math.Seq.{take-append-add}
use Rattle.std.proofs.lemmas.Bool.Decides.{nat_tests}
use Rattle.std.proofs.lemmas.List.{drop-append-le, length-take, take-append-drop, take-append-le}
use Rattle.hc_base.specs.Lines.{pieces}
use Rattle.hc_lines.specs.Logical.{is_nothing, runs}
use Rattle.hc_kept_lines.specs.Edit.{is_ended}
use Rattle.hc_kept_lines.specs.Runs.{AreKept, IsKeptRun, Parts, within}
use Rattle.hc_kept_lines.specs.declared.runs.KeptRun.{KeptRun}
use Rattle.hc_kept_lines.proofs.Ending.{ended-back, ended-behind, runs-append, some_runs}

-- ---- parts

parts_by : (v : Bool) (ys : List ℕ) → (v || is_nothing ys) ≡ true → (w : Bool) → (v ≡ true → w ≡ true)
    → (w || is_nothing ys) ≡ true
parts_by true ys is w more = rw (more refl) refl
parts_by false ys is w more = rw is (or-true w)

-- the back of the first part before the second one
pub Parts-back : (front mid back : List ℕ) → Parts (front ++ mid) back → Parts mid back
Parts-back front mid back is = parts_by _ back is _ (λ h. ended-back front mid h)

-- before a part of the second one
pub Parts-front : (front mid back : List ℕ) → Parts front (mid ++ back) → Parts front mid
Parts-front front [] back is = or-true (is_ended front)
Parts-front front (b ∷ mid) back is = is

-- where a part ends what stands before it does, it ends the whole
pub Parts-more : (front mid back : List ℕ) → Parts front mid → Parts (front ++ mid) back
    → Parts front (mid ++ back)
Parts-more front [] back is whole = rw (append-nil front) at whole
Parts-more front (b ∷ mid) back is whole = is

pub Parts-ended : (front back : List ℕ) → is_ended front ≡ true → Parts front back
Parts-ended front back is = rw is refl

-- Behind a part, the logical lines are those that they are by themselves.
pub runs-parts : (xs ys : List ℕ) → Parts xs ys → runs (pieces (xs ++ ys)) ≡ runs (pieces xs) ++ runs
    (pieces ys)
runs-parts xs [] is = ap (λ l. runs (pieces l)) (append-nil xs) ∙ sym (append-nil (runs (pieces xs)))
runs-parts xs (y ∷ ys) is = runs-append xs (y ∷ ys) (ended _ is) where
  ended : (v : Bool) → (v || false) ≡ true → v ≡ true
  ended true h = refl
  ended false h = h

-- ---- one logical line

-- Two texts aren't one logical line.
not_single : (x : ℕ) (xs : List ℕ) (y : ℕ) (ys : List ℕ) → is_ended (x ∷ xs) ≡ true
    → runs (pieces (x ∷ xs ++ y ∷ ys)) ≡ pieces (x ∷ xs ++ y ∷ ys) ∷ [] → ⊥
not_single x xs y ys is single =
    let two = length-append (runs (pieces (x ∷ xs))) (runs (pieces (y ∷ ys))) in
    let one : length (runs (pieces (x ∷ xs)) ++ runs (pieces (y ∷ ys))) ≡ 1 =
    ap length (sym (runs-append (x ∷ xs) (y ∷ ys) is) ∙ single) in
    omega (arith, some_runs x xs, some_runs y ys, two, one)

nil-left : (xs ys : List ℕ) → xs ++ ys ≡ [] → xs ≡ []
nil-left [] ys e = refl
nil-left (x ∷ xs) ys e = cc

-- A logical line that begins with a part lies within it.
fits : (x : ℕ) (xs ys more : List ℕ) (run : KeptRun) → Parts (x ∷ xs) ys
    → IsKeptRun (take run.bytes (x ∷ xs ++ ys)) more run → length (x ∷ xs) < run.bytes → ⊥
fits x xs ys more run parts kept large = by ys (run.bytes - length (x ∷ xs)) parts (omega arith) whole
    (subst (λ line. (length line ≡ run.bytes) × (runs (pieces line) ≡ pieces line ∷ [])) whole
    (kept.bytes, kept.single))
  where
    whole : take run.bytes (x ∷ xs ++ ys) ≡ x ∷ xs ++ take (run.bytes - length (x ∷ xs)) ys
    whole = ap (λ n. take n (x ∷ xs ++ ys))
        (let e : run.bytes ≡ length (x ∷ xs) + (run.bytes - length (x ∷ xs)) = omega arith in e)
        ∙ take-append-add (x ∷ xs) ys (run.bytes - length (x ∷ xs))

    by : (ys : List ℕ) (n : ℕ) → Parts (x ∷ xs) ys → 0 < n
        → take run.bytes (x ∷ xs ++ ys) ≡ x ∷ xs ++ take n ys
        → (length (x ∷ xs ++ take n ys) ≡ run.bytes)
        × (runs (pieces (x ∷ xs ++ take n ys)) ≡ pieces (x ∷ xs ++ take n ys) ∷ []) → ⊥
    by ys zero parts some e line = absurd (omega arith)
    by [] (suc n) parts some e line = omega (arith, line.0, length-append (x ∷ xs) [])
    by (y ∷ ys) (suc n) parts some e line = not_single x xs y (take n ys) (ended _ parts) line.1
      where
        ended : (v : Bool) → (v || false) ≡ true → v ≡ true
        ended true h = refl
        ended false h = h

-- ---- kept lines of two parts

pub record AreApart (xs ys : List ℕ) (runs : List KeptRun) : Type 0 where
  pub front : AreKept xs (take (within runs (length xs)) runs)
  pub back : AreKept ys (drop (within runs (length xs)) runs)

-- the same logical line before less
pub before-less : (line mid back : List ℕ) (run : KeptRun) → IsKeptRun line (mid ++ back) run
    → IsKeptRun line mid run
before-less line mid back run kept = record {
  bytes = kept.bytes;
  some = kept.some;
  single = kept.single;
  count = kept.count;
  ended = Parts-front line mid back kept.ended;
  read = kept.read;
}

apart_none : (xs ys : List ℕ) (run : KeptRun) (more : List KeptRun) → Parts xs ys
    → AreKept (xs ++ ys) (run ∷ more) → length xs < run.bytes → AreApart xs ys (run ∷ more)
apart_none [] ys run more parts kept small =
    let e : nat_lt 0 run.bytes ≡ true = grind (arith, nat_tests) in
    record { front = rw e refl; back = rw e kept }
apart_none (x ∷ xs) ys run more parts kept small = absurd (fits x xs ys _ run parts kept.0 small)

apart_more : (xs ys : List ℕ) (run : KeptRun) (more : List KeptRun)
    → AreKept (xs ++ ys) (run ∷ more) → nat_lt (length xs) run.bytes ≡ false
    → AreApart (drop run.bytes xs) ys more → AreApart xs ys (run ∷ more)
apart_more xs ys run more kept e later =
    let n : run.bytes ≤ length xs = ltb-false _ _ e in
    let here = before-less (take run.bytes xs) (drop run.bytes xs) ys run
    (rw (take-append-le run.bytes xs ys n, drop-append-le run.bytes xs ys n) at kept.0) in
    let size = length-drop run.bytes xs in
    record {
      front = rw e (here, rw size at later.front);
      back = rw e (rw size at later.back);
    }

-- The kept lines of a text in two parts are those of each.
pub apart : (xs ys : List ℕ) (runs : List KeptRun) → Parts xs ys → AreKept (xs ++ ys) runs
    → AreApart xs ys runs
apart xs ys [] parts kept =
    let none = nil-left xs ys kept in
    record { front = none; back = subst (λ l. l ++ ys ≡ []) none kept }
apart xs ys (run ∷ more) parts kept = by _ refl
    (λ (n : run.bytes ≤ length xs). apart (drop run.bytes xs) ys more (later n) (kept_later n))
  where
    later : run.bytes ≤ length xs → Parts (drop run.bytes xs) ys
    later n = Parts-back (take run.bytes xs) (drop run.bytes xs) ys
        (subst (λ l. Parts l ys) (sym (take-append-drop run.bytes xs)) parts)

    kept_later : run.bytes ≤ length xs → AreKept (drop run.bytes xs ++ ys) more
    kept_later n = rw (drop-append-le run.bytes xs ys n) at kept.1

    by : (v : Bool) → nat_lt (length xs) run.bytes ≡ v
        → (run.bytes ≤ length xs → AreApart (drop run.bytes xs) ys more)
        → AreApart xs ys (run ∷ more)
    by true e more_apart = apart_none xs ys run more parts kept (ltb-true _ _ e)
    by false e more_apart = apart_more xs ys run more kept e (more_apart (ltb-false _ _ e))

-- the same logical line before more
before-more : (line mid back : List ℕ) (run : KeptRun) → IsKeptRun line mid run
    → Parts (line ++ mid) back → IsKeptRun line (mid ++ back) run
before-more line mid back run kept parts = record {
  bytes = kept.bytes;
  some = kept.some;
  single = kept.single;
  count = kept.count;
  ended = Parts-more line mid back kept.ended parts;
  read = kept.read;
}

-- The kept lines of two parts are those of the text that they make.
pub together : (xs ys : List ℕ) (runs more : List KeptRun) → Parts xs ys → AreKept xs runs
    → AreKept ys more → AreKept (xs ++ ys) (runs ++ more)
together xs ys [] more parts kept later = rw kept later
together xs ys (run ∷ runs) more parts kept later =
    let line = take run.bytes xs in
    let mid = drop run.bytes xs in
    let size = kept.0.bytes in
    let n : run.bytes ≤ length xs = size_of in
    let whole : Parts (line ++ mid) ys = subst (λ l. Parts l ys) (sym (take-append-drop run.bytes xs)) parts in (
      rw (take-append-le run.bytes xs ys n, drop-append-le run.bytes xs ys n)
          (before-more line mid ys run kept.0 whole),
      rw (drop-append-le run.bytes xs ys n)
          (together mid ys runs more (Parts-back line mid ys whole) kept.1 later),
    )
  where
    size_of : run.bytes ≤ length xs
    size_of = omega (arith, kept.0.bytes, length-take run.bytes xs)

-- ---- a part behind an ended text

pub ended-front : (front back : List ℕ) → is_ended front ≡ true → is_ended (front ++ back) ≡ is_ended back
ended-front front [] is = ap is_ended (append-nil front) ∙ is
ended-front front (b ∷ back) is = ended-behind front b back is
