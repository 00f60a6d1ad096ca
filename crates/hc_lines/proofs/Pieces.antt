-- A text cut at its first LF, and physical lines cut behind their first run.
use Rattle.std.proofs.Common.{◌≡◌, ℕ, suc, ◌+◌, ◌-◌, ◌<◌, ◌≤◌, List, [], ◌∷◌, ◌++◌}
use Rattle.std.proofs.Common.{length, take, drop, slice_index, Bool, true, false, refl, sym, ◌∙◌, ap, arith}
use Rattle.std.proofs.Common.{append_assoc, append-nil, eqb-true}
use Rattle.hc_lines.proofs.Common.{drop-length, take-append_seam, length-take-le, take-append-drop, concat}
use Rattle.hc_lines.proofs.Common.{position_or_len, lf, is_lf, onto_piece, pieces, joins, onto_run, runs, StartsWith}
use Rattle.hc_lines.proofs.Common.{after_run, first_run}

abbrev end_of : List ℕ → ℕ
end_of bs = position_or_len is_lf bs

cut_step : (b : ℕ) (bs : List ℕ) (t : Bool) → is_lf b ≡ t
    → (end_of bs < length bs → pieces bs ≡ take (end_of bs + 1) bs ∷ pieces (drop (end_of bs + 1) bs))
    → end_of (b ∷ bs) < length (b ∷ bs) → pieces (b ∷ bs) ≡ take (end_of (b ∷ bs) + 1) (b ∷ bs)
    ∷ pieces (drop (end_of (b ∷ bs) + 1) (b ∷ bs))
cut_step b bs true e more h = rw e refl
cut_step b bs false e more h =
    let k : end_of bs < length bs = omega (arith, rw e at h) in
    let s : 1 + end_of bs ≡ suc (end_of bs) = omega arith in
    let d : suc (end_of bs) + 1 ≡ suc (end_of bs + 1) = omega arith in
    rw (e, more k, s, d) refl

-- the physical line up to the first LF, and those behind it
pub pieces-cut : (bs : List ℕ) → end_of bs < length bs
    → pieces bs ≡ take (end_of bs + 1) bs ∷ pieces (drop (end_of bs + 1) bs)
pieces-cut [] h = absurd (omega arith)
pieces-cut (b ∷ bs) h = cut_step b bs (is_lf b) refl (pieces-cut bs) h

last_step : (b c : ℕ) (bs : List ℕ) (t : Bool) → is_lf b ≡ t
    → (length (c ∷ bs) ≤ end_of (c ∷ bs) → pieces (c ∷ bs) ≡ (c ∷ bs) ∷ [])
    → length (b ∷ c ∷ bs) ≤ end_of (b ∷ c ∷ bs) → pieces (b ∷ c ∷ bs) ≡ (b ∷ c ∷ bs) ∷ []
last_step b c bs true e more h = absurd (omega (arith, rw e at h))
last_step b c bs false e more h =
    let k : length (c ∷ bs) ≤ end_of (c ∷ bs) = omega (arith, rw e at h) in
    rw e (ap (onto_piece b) (more k))

alone : (b : ℕ) (t : Bool) → is_lf b ≡ t → pieces (b ∷ []) ≡ (b ∷ []) ∷ []
alone b true e = rw e refl
alone b false e = rw e refl

pub pieces-cut_at : (bs : List ℕ) → end_of bs < length bs
    → pieces bs ≡ take (end_of bs + 1) bs ∷ pieces (drop (length (take (end_of bs + 1) bs)) bs)
pieces-cut_at bs h = let k : end_of bs + 1 ≤ length bs = omega arith in
    rw (length-take-le (end_of bs + 1) bs k) (pieces-cut bs h)

lf_step : (b : ℕ) (bs : List ℕ) (t : Bool) → is_lf b ≡ t
    → (end_of bs < length bs → slice_index bs (end_of bs) ≡ lf) → end_of (b ∷ bs) < length (b ∷ bs)
    → slice_index (b ∷ bs) (end_of (b ∷ bs)) ≡ lf
lf_step b bs true e more h = rw e (eqb-true b lf e)
lf_step b bs false e more h =
    let k : end_of bs < length bs = omega (arith, rw e at h) in
    let s : 1 + end_of bs ≡ suc (end_of bs) = omega arith in
    rw (e, s) (more k)

-- what stands there is LF
pub lf-at_end : (bs : List ℕ) → end_of bs < length bs → slice_index bs (end_of bs) ≡ lf
lf-at_end [] h = absurd (omega arith)
lf-at_end (b ∷ bs) h = lf_step b bs _ refl (lf-at_end bs) h

pub lf-at_cut : (bs : List ℕ) → end_of bs < length bs → slice_index bs (length (take (end_of bs + 1) bs) - 1)
    ≡ lf
lf-at_cut bs h =
    let k : end_of bs + 1 ≤ length bs = omega arith in
    let m : end_of bs + 1 - 1 ≡ end_of bs = omega arith in
    rw (length-take-le (end_of bs + 1) bs k, m) (lf-at_end bs h)

-- a text without LF is one physical line, if it isn't empty
pub pieces-last : (bs : List ℕ) → 0 < length bs → length bs ≤ end_of bs → pieces bs ≡ bs ∷ []
pieces-last [] some h = absurd (omega arith)
pieces-last (b ∷ []) some h = alone b (is_lf b) refl
pieces-last (b ∷ c ∷ bs) some h = last_step b c bs (is_lf b) refl (pieces-last (c ∷ bs) (omega arith)) h

pub pieces-last_at : (bs : List ℕ) → 0 < length bs → length bs ≤ end_of bs
    → pieces bs ≡ bs ∷ pieces (drop (length bs) bs)
pieces-last_at bs some h = rw drop-length (pieces-last bs some h)

-- ---- a text is its physical lines

concat-onto : (b : ℕ) (ps : List (List ℕ)) → concat (onto_piece b ps) ≡ b ∷ concat ps
concat-onto b [] = refl
concat-onto b (p ∷ ps) = refl

concat_step : (b : ℕ) (bs : List ℕ) (t : Bool) → is_lf b ≡ t → concat (pieces bs) ≡ bs
    → concat (pieces (b ∷ bs)) ≡ b ∷ bs
concat_step b bs true e more = rw e (ap (λ l. b ∷ l) more)
concat_step b bs false e more = rw e (concat-onto b (pieces bs) ∙ ap (λ l. b ∷ l) more)

pub concat-pieces : (text : List ℕ) → concat (pieces text) ≡ text
concat-pieces [] = refl
concat-pieces (b ∷ bs) = concat_step b bs _ refl (concat-pieces bs)

-- ---- the first run

runs_step : (p : List ℕ) (ps : List (List ℕ)) (t : Bool) → joins p ≡ t
    → (0 < length ps → runs ps ≡ first_run ps ∷ runs (after_run ps))
    → runs (p ∷ ps) ≡ first_run (p ∷ ps) ∷ runs (after_run (p ∷ ps))
runs_step p ps false e more = rw e refl
runs_step p [] true e more = rw e refl
runs_step p (q ∷ qs) true e more = rw e (ap (onto_run p) (more (omega arith)))

pub runs-first : (ps : List (List ℕ)) → 0 < length ps → runs ps ≡ first_run ps ∷ runs (after_run ps)
runs-first [] some = absurd (omega arith)
runs-first (p ∷ ps) some = runs_step p ps (joins p) refl (runs-first ps)

whole_step : (p : List ℕ) (ps : List (List ℕ)) (t : Bool) → joins p ≡ t
    → concat (first_run ps) ++ concat (after_run ps) ≡ concat ps
    → concat (first_run (p ∷ ps)) ++ concat (after_run (p ∷ ps)) ≡ concat (p ∷ ps)
whole_step p ps true e more =
    rw e (append_assoc p (concat (first_run ps)) (concat (after_run ps)) ∙ ap (λ l. p ++ l) more)
whole_step p ps false e more = rw (e, append-nil p) refl

-- a run and what is behind it are all
pub concat-first : (ps : List (List ℕ)) → concat (first_run ps) ++ concat (after_run ps) ≡ concat ps
concat-first [] = refl
concat-first (p ∷ ps) = whole_step p ps _ refl (concat-first ps)

-- The first run is the front of the text.
pub concat-first-take : (text : List ℕ) → concat (first_run (pieces text))
    ≡ take (length (concat (first_run (pieces text)))) text
concat-first-take text =
    let whole : concat (first_run (pieces text)) ++ concat (after_run (pieces text)) ≡ text =
    concat-first (pieces text) ∙ concat-pieces text in
    sym (ap (take (length (concat (first_run (pieces text))))) (sym whole)
    ∙ take-append_seam (concat (first_run (pieces text))) (concat (after_run (pieces text))))

pub pieces-some : (text : List ℕ) → 0 < length text → 0 < length (pieces text)
pieces-some [] some = absurd (omega arith)
pieces-some (b ∷ bs) some = some_step b bs (is_lf b) refl where
  onto_some : (b : ℕ) (ps : List (List ℕ)) → 0 < length (onto_piece b ps)
  onto_some b [] = omega arith
  onto_some b (p ∷ ps) = omega arith

  some_step : (b : ℕ) (bs : List ℕ) (t : Bool) → is_lf b ≡ t → 0 < length (pieces (b ∷ bs))
  some_step b bs true e = rw e (omega arith)
  some_step b bs false e = rw e (onto_some b (pieces bs))

-- What a scan of a text finds of its first run.
pub record IsScanned (text : List ℕ) (end count : ℕ) : Type 0 where
  pub filled : 0 < length text
  pub bytes : length (concat (first_run (pieces text))) ≡ end
  pub pieces_count : length (first_run (pieces text)) ≡ count
  pub behind : after_run (pieces text) ≡ pieces (drop end text)
  pub some : 0 < count
  pub within : count ≤ end
  pub inside : end ≤ length text

StartsWith-scanned : (text : List ℕ) (end count : ℕ) → IsScanned text end count
    → StartsWith text (take end text) count (drop end text)
StartsWith-scanned text end count s = record {
  run = first_run (pieces text);
  cut = runs-first (pieces text) (pieces-some text s.filled)
      ∙ ap (λ ps. first_run (pieces text) ∷ runs ps) s.behind;
  of_bytes = concat-first-take text ∙ ap (λ n. take n text) s.bytes;
  of_count = s.pieces_count;
  whole = sym (take-append-drop end text);
  some = s.some;
  within = rw (length-take-le end text s.inside) s.within;
}

pub StartsWith-run : (text bytes behind : List ℕ) (end count : ℕ) → IsScanned text end count
    → bytes ≡ take end text → behind ≡ drop end text → StartsWith text bytes count behind
StartsWith-run text bytes behind end count s front back = rw (front, back) (StartsWith-scanned text end count s)
