-- The kept lines of an edited text.
use Rattle.std.proofs.Common.{◌≡◌, ℕ, ◌+◌, ◌-◌, ◌<◌, ◌≤◌, List, [], ◌∷◌, ◌++◌}
use Rattle.std.proofs.Common.{length, take, drop, true, refl, sym, ◌∙◌}
use Rattle.std.proofs.Common.{ap, append_assoc, arith, length-append, length-drop, Result, Ok, Err, Vec, Global, IfOk}
use Rattle.std.proofs.Common.{Bool, false, ◌&&◌, nat_le, leb-true, ltb-true, append-nil, subst}
use Rattle.std.specs.List.{flat_map}
use Rattle.std.proofs.lemmas.List.Concat.{concat_is, flat_map-append}
use Rattle.hc_base.specs.Lines.{pieces}
use Rattle.std.proofs.lemmas.List.{drop-drop, drop-take, length-take-le, take-append-drop, take-take}
use Rattle.hc_kept_lines.specs.Edit.{behind, bytes_made, is_idle, is_ended, is_range, open_line, spliced, touched}
use Rattle.hc_kept_lines.specs.Edit.{up_to}
use Rattle.hc_kept_lines.specs.Places.{IsBehind, IsPart}
use Rattle.hc_kept_lines.specs.Runs.{AreKept, AreLinesOf, Parts, within}
use Rattle.hc_kept_lines.specs.declared.lines.KeptLines.{KeptLines}
use Rattle.hc_kept_lines.specs.declared.runs.KeptRun.{KeptRun}
use Rattle.hc_kept_lines.proofs.Cutting.{take_sum}
use Rattle.hc_kept_lines.proofs.Ending.{concat-pieces}
use Rattle.hc_kept_lines.proofs.Pieces.{behind-is}
use Rattle.hc_kept_lines.proofs.Keeping.{Parts-ended, apart, together}
use Rattle.hc_kept_lines.proofs.Touching.{touched-front}

-- the front of kept lines, and their back, at a place at which a logical line ends
front_kept : (text : List ℕ) (at : ℕ) (runs : List KeptRun) → at ≤ length text
    → Parts (take at text) (drop at text) → AreKept text runs
    → AreKept (take at text) (take (within runs at) runs)
front_kept text at runs inside parts kept =
    rw (length-take-le at text inside) at
    (apart (take at text) (drop at text) runs parts (rw (take-append-drop at text) kept)).front

back_kept : (text : List ℕ) (at : ℕ) (runs : List KeptRun) → at ≤ length text
    → Parts (take at text) (drop at text) → AreKept text runs
    → AreKept (drop at text) (drop (within runs at) runs)
back_kept text at runs inside parts kept =
    rw (length-take-le at text inside) at
    (apart (take at text) (drop at text) runs parts (rw (take-append-drop at text) kept)).back

-- Between the front and the back of the old ones stand those of the part that is touched.
pub edited_kept : (old new : List ℕ) (start end first last : ℕ) (text : List ℕ) (runs fresh : List KeptRun)
    → IsPart old start end new first last text → AreKept old runs → AreKept text fresh
    → AreKept (take start old ++ new ++ drop end old) (take (within runs first) runs ++ fresh ++ drop (within runs last)
    runs)
edited_kept old new start end first last text runs fresh part kept cut =
    let front = front_kept old first runs part.before (Parts-ended (take first old) (drop first old) part.ended) kept in
    let back = back_kept old last runs part.within part.parts_old kept in
    let made = together text (drop last old) fresh (drop (within runs last) runs) part.parts_new cut back in
    let all = together (take first old) (text ++ drop last old) (take (within runs first) runs) (fresh ++ drop
    (within runs last) runs) (Parts-ended (take first old) (text ++ drop last old) part.ended) front made in
    rw (part.whole, ← append_assoc (take (within runs first) runs) fresh (drop (within runs last) runs)) at all

-- ---- what is touched

-- from the place behind the last logical line's end to the first place where a logical line ends in both
pub IsPart-made : (old : List ℕ) (start end : ℕ) (new : List ℕ) (first more : ℕ) (text : List ℕ)
    → start ≤ length old → end ≤ length old
    → first ≤ length (take start old) → is_ended (take first (take start old)) ≡ true
    → open_line (take start old) ≡ drop first (take start old)
    → more ≤ length (drop end old)
    → more ≡ length (touched (take end old) (drop first (take start old) ++ new) (drop end old))
    → Parts (take end old ++ take more (drop end old)) (drop more (drop end old))
    → Parts ((drop first (take start old) ++ new) ++ take more (drop end old)) (drop more (drop end old))
    → text ≡ (drop first (take start old) ++ new) ++ take more (drop end old)
    → IsPart old start end new first (end + more) text
IsPart-made old start end new first more text starts ends before is tail inside touches parts_old parts_new e =
    let front = take start old in
    let back = drop end old in
    let mid = drop first front in
    let size : length front ≡ start = length-take-le start old starts in
    let same : take first front ≡ take first old = take-take first start old (omega (arith, size, before)) in
    let rest : drop (end + more) old ≡ drop more back = sym (drop-drop more end old) in
    let prefix : take (end + more) old ≡ take end old ++ take more back = take_sum end more old in
    let now : touched (take end old) (front ++ new) back ≡ touched (take end old) (mid ++ new) back =
    ap (λ l. touched (take end old) l back) (ap (λ l. l ++ new) (sym (take-append-drop first front))
    ∙ append_assoc (take first front) mid new) ∙ touched-front (take first front) (take end old) (mid ++ new) back is in
    record {
      before = omega (arith, size, before, starts);
      within = omega (arith, inside, ends, length-drop end old);
      ended = ap is_ended (sym same) ∙ is;
      parts_old = rw (prefix, rest) parts_old;
      parts_new = rw (e, rest) parts_new;
      whole = ap (λ l. take first old ++ (text ++ l)) rest ∙ ap (λ l. take first old ++ (l ++ drop more back)) e
          ∙ ap (λ l. take first old ++ l) (append_assoc (mid ++ new) (take more back) (drop more back)
          ∙ ap (λ l. (mid ++ new) ++ l) (take-append-drop more back))
          ∙ ap (λ l. l ++ ((mid ++ new) ++ back)) (sym same)
          ∙ sym (append_assoc (take first front) (mid ++ new) back)
          ∙ ap (λ l. l ++ back) (sym (append_assoc (take first front) mid new)
          ∙ ap (λ l. l ++ new) (take-append-drop first front));
      made = omega (
        arith,
        ap length e,
        length-append (mid ++ new) (take more back),
        length-append mid new,
        length-take-le more back inside,
        ap length tail,
        touches,
        ap length now,
      );
    }

-- no more than the text behind the edit has
pub part_small : (old : List ℕ) (start end : ℕ) (new : List ℕ) (first last : ℕ) (text : List ℕ)
    → start ≤ length old → end ≤ length old → IsPart old start end new first last text
    → length text ≤ start + length new + (length old - end)
part_small old start end new first last text starts ends part =
    omega (
      arith,
      ap length part.whole,
      length-append (take first old) (text ++ drop last old),
      length-append text (drop last old),
      length-append (take start old ++ new) (drop end old),
      length-append (take start old) new,
      length-take-le start old starts,
      length-drop end old,
    )

pub given_kept : {E : Type 0} (text : List ℕ) (runs : List KeptRun) (given : Result (Vec KeptRun Global) E)
    → AreKept text runs → IfOk given (λ made. made.items ≡ runs) → IfOk given (λ made. AreKept text made.items)
given_kept text runs (Ok made) kept e = rw e kept
given_kept text runs (Err fault) kept e = tt

pub given_so : {A E P : Type 0} (given : Result A E) → P → IfOk given (λ made. P)
given_so (Ok made) p = p
given_so (Err fault) p = tt

-- ---- an edit of physical lines

pub IsBehind-le : (text : List ℕ) (m n at end : ℕ) → IsBehind text m at → IsBehind text n end → m ≤ n
    → at ≤ end
IsBehind-le text m n at end first last less =
    let whole : up_to n text ≡ up_to m text ++ flat_map (λ piece. piece) (take (n - m) (drop m (pieces text))) =
    ap (flat_map (λ piece. piece)) (ap (λ k. take k (pieces text)) (let e : n ≡ m + (n - m) = omega arith in e)
    ∙ take_pieces m (n - m) (pieces text))
    ∙ flat_map-append (λ piece. piece) (take m (pieces text)) (take (n - m) (drop m (pieces text))) in
    let here = length-take-le at text first.within in
    let there = length-take-le end text last.within in
    omega (
      arith,
      here,
      there,
      ap length first.before,
      ap length last.before,
      ap length whole,
      length-append (up_to m text) (flat_map (λ piece. piece) (take (n - m) (drop m (pieces text)))),
    )
  where
    take_pieces : (m n : ℕ) (ps : List (List ℕ)) → take (m + n) ps ≡ take m ps ++ take n (drop m ps)
    take_pieces m n ps =
        sym (take-append-drop m (take (m + n) ps)) ∙ ap (λ front. front ++ drop m (take (m + n) ps))
        (take-take m (m + n) ps (omega arith)) ∙ ap (λ rest. take m ps ++ rest) (drop-take m n ps)

pub in_order : (lines from to : ℕ) → is_range lines from to ≡ true → from - 1 ≤ to
in_order lines from to is = by (nat_le 1 from) (nat_le from (lines + 1)) (nat_le (from - 1) to)
    (nat_le to lines) refl is
  where
    by : (a b d e : Bool) → nat_le (from - 1) to ≡ d → (a && b && d && e) ≡ true → from - 1 ≤ to
    by a b true e f h = leb-true (from - 1) to f
    by true true false e f h = cc
    by true false false e f h = cc
    by false b false e f h = cc

pub spliced_by : (old new : List ℕ) (from to start end : ℕ) → IsBehind old (from - 1) start
    → IsBehind old to end → take start old ++ new ++ drop end old ≡ spliced old from to new
spliced_by old new from to start end first last =
    ap (λ front. front ++ new ++ drop end old) first.before
    ∙ ap (λ back. up_to (from - 1) old ++ new ++ back) (behind-is old to end last)

pub spliced_kept : (old new text : List ℕ) (from to start end first last : ℕ) (runs fresh : List KeptRun)
    → IsBehind old (from - 1) start → IsBehind old to end → IsPart old start end new first last text
    → AreKept old runs → AreKept text fresh
    → AreKept (spliced old from to new) (take (within runs first) runs ++ fresh ++ drop (within runs last) runs)
spliced_kept old new text from to start end first last runs fresh before behind part kept cut =
    subst (λ t. AreKept t (take (within runs first) runs ++ fresh ++ drop (within runs last) runs))
    (spliced_by old new from to start end before behind)
    (edited_kept old new start end first last text runs fresh part kept cut)

pub spliced_len : (old new : List ℕ) (from to start end : ℕ) → IsBehind old (from - 1) start → IsBehind old to end
    → length (spliced old from to new) ≡ start + length new + (length old - end)
spliced_len old new from to start end before behind =
    ap length (sym (spliced_by old new from to start end before behind))
    ∙ omega (
      arith,
      length-append (take start old ++ new) (drop end old),
      length-append (take start old) new,
      length-take-le start old before.within,
      length-drop end old,
    )

pub made_is : (old new text : List ℕ) (from to start end first last : ℕ) → IsBehind old (from - 1) start
    → IsBehind old to end → IsPart old start end new first last text → length text ≡ bytes_made old from to new
made_is old new text from to start end first last before behind part =
    rw (before.before, behind.before, behind-is old to end behind) at part.made

-- Where nothing is replaced by nothing, the text stays.
pub spliced-idle : (old new : List ℕ) (from to : ℕ) → is_range (length (pieces old)) from to ≡ true
    → is_idle from to new ≡ true → old ≡ spliced old from to new
spliced-idle old [] from to range idle =
    let less : to < from = ltb-true to from idle in
    let order : from - 1 ≤ to = in_order (length (pieces old)) from to range in
    let same : to ≡ from - 1 = omega arith in
    sym (ap (λ n. up_to (from - 1) old ++ [] ++ behind n old) same
    ∙ ap (λ front. front ++ behind (from - 1) old) (append-nil (up_to (from - 1) old))
    ∙ sym (flat_map-append (λ piece. piece) (take (from - 1) (pieces old)) (drop (from - 1) (pieces old)))
    ∙ ap (flat_map (λ piece. piece)) (take-append-drop (from - 1) (pieces old))
    ∙ sym (concat_is (pieces old)) ∙ concat-pieces old)
spliced-idle old (b ∷ new) from to range idle = cc

pub lines_idle : (old new : List ℕ) (from to : ℕ) (kept made : KeptLines)
    → is_range (length (pieces old)) from to ≡ true → is_idle from to new ≡ true → AreLinesOf old kept
    → made.runs.items ≡ kept.runs.items → AreLinesOf (spliced old from to new) made
lines_idle old new from to kept made range idle lines e =
    subst (λ t. AreLinesOf t made) (spliced-idle old new from to range idle)
    (record { small = lines.small; kept = subst (AreKept old) (sym e) lines.kept })
