-- A text is read from physical line to physical line.
use Rattle.std.proofs.Common.{◌≡◌, ℕ, zero, suc, ◌+◌, ◌-◌, ◌<◌, ◌≤◌, List, [], ◌∷◌}
use Rattle.std.proofs.Common.{◌++◌, length, take, drop}
use Rattle.std.proofs.Common.{Bool, true, false, cond, not, nat_lt, slice_index, Some, None, refl, sym, ap, ◌∙◌}
use Rattle.std.proofs.Common.{subst}
use Rattle.std.proofs.Common.{inl, inr, ◌⊎◌, ⊎_elim, arith, eqb-true, add-one, ltb-false, ltb-true}
use Rattle.std.specs.List.{flat_map, position, position_or_len}
use Rattle.std.specs.Str.{IsUtf8}
use Rattle.std.proofs.lemmas.Bool.Decides.{nat_tests}
use Rattle.std.proofs.lemmas.List.{drop-drop, drop_all, flat_map_more, length-drop, take_all}
use Rattle.std.proofs.lemmas.List.Concat.{concat_is}
use Rattle.std.proofs.lemmas.Str.{IsCharBoundary-after_ascii, IsUtf8-drop, IsUtf8-nil}
use Rattle.hc_base.specs.Lines.{is_lf, onto_piece, pieces}
use Rattle.hc_kept_lines.specs.Edit.{behind}
use Rattle.hc_kept_lines.specs.Places.{IsBehind, piece_len}
use Rattle.hc_kept_lines.proofs.Cutting.{take_sum}
use Rattle.hc_kept_lines.proofs.Ending.{concat-pieces}

abbrev joined : List (List ℕ) → List ℕ
joined lines = flat_map (λ line. line) lines

-- ---- the first line

piece_len-fits : (text : List ℕ) → piece_len text ≤ length text
piece_len-fits [] = omega arith
piece_len-fits (b ∷ bs) = let rest = piece_len-fits bs in
    elim (is_lf b) as (λ v. cond v 1 (piece_len bs + 1) ≤ suc (length bs))
    [ true ↦ omega arith | false ↦ omega arith ]

piece_len-is : (text : List ℕ) → piece_len text ≡ cond (nat_lt (position_or_len is_lf text) (length text))
    (position_or_len is_lf text + 1) (length text)
piece_len-is [] = refl
piece_len-is (b ∷ bs) =
    elim (is_lf b)
    as (λ v. cond v 1 (piece_len bs + 1)
    ≡ cond (nat_lt (cond (not v) (1 + position_or_len is_lf bs) 0) (suc (length bs)))
    (cond (not v) (1 + position_or_len is_lf bs) 0 + 1) (suc (length bs))) [
      | true ↦ grind (arith, nat_tests)
      | false ↦ grind (arith, nat_tests, piece_len-is bs)
    ]

pub piece_len-found : (text : List ℕ) (lf : ℕ) → Some lf ≡ position is_lf text → lf + 1 ≡ piece_len text
piece_len-found text lf is = by _ refl is
  where
    by : (v : Bool) → nat_lt (position_or_len is_lf text) (length text) ≡ v
        → Some lf ≡ cond v (Some (position_or_len is_lf text)) None → lf + 1 ≡ piece_len text
    by true e h = let same : lf ≡ position_or_len is_lf text = cc in ap (λ n. n + 1) same
        ∙ sym (piece_len-is text ∙ ap (λ v. cond v (position_or_len is_lf text + 1) (length text)) e)
    by false e h = cc

pub piece_len-none : (text : List ℕ) → None ≡ position is_lf text → length text ≡ piece_len text
piece_len-none text is = by _ refl is
  where
    by : (v : Bool) → nat_lt (position_or_len is_lf text) (length text) ≡ v
        → None ≡ cond v (Some (position_or_len is_lf text)) None → length text ≡ piece_len text
    by true e h = cc
    by false e h = sym (piece_len-is text ∙ ap (λ v. cond v (position_or_len is_lf text + 1) (length text)) e)

drop_one : (b : ℕ) (bs : List ℕ) (n : ℕ) → drop (n + 1) (b ∷ bs) ≡ drop n bs
drop_one b bs n = ap (λ m. drop m (b ∷ bs)) (add-one n)

take_one : (b : ℕ) (bs : List ℕ) (n : ℕ) → take (n + 1) (b ∷ bs) ≡ b ∷ take n bs
take_one b bs n = ap (λ m. take m (b ∷ bs)) (add-one n)

pieces_first : (b : ℕ) (bs : List ℕ) → pieces (b ∷ bs) ≡ take (piece_len (b ∷ bs)) (b ∷ bs)
    ∷ pieces (drop (piece_len (b ∷ bs)) (b ∷ bs))
pieces_first b [] =
    elim (is_lf b) as (λ v. cond v ((b ∷ []) ∷ pieces []) (onto_piece b (pieces []))
    ≡ take (cond v 1 (0 + 1)) (b ∷ []) ∷ pieces (drop (cond v 1 (0 + 1)) (b ∷ [])))
    [ true ↦ refl | false ↦ refl ]
pieces_first b (c ∷ cs) =
    let bs = c ∷ cs in
    let n = piece_len bs in
    elim (is_lf b) as (λ v. cond v ((b ∷ []) ∷ pieces bs) (onto_piece b (pieces bs))
    ≡ take (cond v 1 (n + 1)) (b ∷ bs) ∷ pieces (drop (cond v 1 (n + 1)) (b ∷ bs))) [
      | true ↦ refl
      | false ↦ ap (onto_piece b) (pieces_first c cs)
          ∙ sym (ap (λ line. line ∷ pieces (drop (n + 1) (b ∷ bs))) (take_one b bs n)
          ∙ ap (λ rest. (b ∷ take n bs) ∷ pieces rest) (drop_one b bs n))
    ]

-- It ends behind an LF, or the text ends.
line_end : (text : List ℕ) → (drop (piece_len text) text ≡ [])
    ⊎ ((k : ℕ) × (piece_len text ≡ k + 1) × (k < length text) × (slice_index text k ≡ 10))
line_end [] = inl refl
line_end (b ∷ bs) =
    elim (is_lf b) as (λ v. is_lf b ≡ v → (drop (cond v 1 (piece_len bs + 1)) (b ∷ bs) ≡ [])
    ⊎ ((k : ℕ) × (cond v 1 (piece_len bs + 1) ≡ k + 1) × (k < length (b ∷ bs))
    × (slice_index (b ∷ bs) k ≡ 10))) [
      | true ↦ λ e. inr (0, refl, omega arith, eqb-true b 10 e)
      | false ↦ λ _. ⊎_elim
          (λ all. inl (drop_one b bs (piece_len bs) ∙ all))
          (λ lf. let size = lf.1 in let room = lf.2 in inr (suc lf.0, omega arith, omega arith, lf.3))
          (line_end bs)
    ] refl

rest_whole : (text : List ℕ) → IsUtf8 text → IsUtf8 (drop (piece_len text) text)
rest_whole text whole = ⊎_elim
    (λ all. subst IsUtf8 (sym all) IsUtf8-nil)
    (λ lf. subst (λ n. IsUtf8 (drop n text)) (sym lf.1)
    (IsUtf8-drop text (lf.0 + 1) whole (IsCharBoundary-after_ascii text lf.0 whole lf.2 (below lf.3))))
    (line_end text)
  where
    below : {x : ℕ} → x ≡ 10 → x < 128
    below e = omega arith

-- ---- line after line

pub IsBehind-none : (text : List ℕ) → IsUtf8 text → IsBehind text 0 0
IsBehind-none text whole =
    record { within = omega arith; before = refl; rest = refl; count = omega arith; whole = whole }

next_of : (k : ℕ) (lines more : List (List ℕ)) (line : List ℕ) → drop k lines ≡ line ∷ more
    → (take (suc k) lines ≡ take k lines ++ line ∷ []) × (drop (suc k) lines ≡ more) × (k < length lines)
next_of zero [] more line e = cc
next_of zero (l ∷ ls) more line e = let head : l ≡ line = cc in let tail : ls ≡ more = cc in
    (ap (λ x. x ∷ []) head, tail, omega arith)
next_of (suc k) [] more line e = cc
next_of (suc k) (l ∷ ls) more line e = let rest = next_of k ls more line e in let room = rest.2 in
    (ap (λ x. l ∷ x) rest.0, rest.1, omega arith)

pub IsBehind-more : (text : List ℕ) (lines at : ℕ) → IsBehind text lines at → at < length text
    → IsBehind text (lines + 1) (at + piece_len (drop at text))
IsBehind-more text lines at is more = by (drop at text) refl
  where
    by : (rest : List ℕ) → drop at text ≡ rest → IsBehind text (lines + 1) (at + piece_len rest)
    by [] e = let none : length (drop at text) ≡ 0 = ap length e in absurd (omega (arith, length-drop at text))
    by (b ∷ bs) e =
        let rest = b ∷ bs in
        let n = piece_len rest in
        let next = next_of lines (pieces text) (pieces (drop n rest)) (take n rest)
        (is.rest ∙ ap pieces e ∙ pieces_first b bs) in
        let fits : n ≤ length rest = piece_len-fits rest in
        let size : length rest ≡ length text - at = ap length (sym e) ∙ length-drop at text in
        let room = is.within in
        let place : drop (at + n) text ≡ drop n rest = sym (drop-drop n at text) ∙ ap (drop n) e in
        let one = next.2 in
        record {
          within = omega arith;
          before = take_sum at n text ∙ ap (λ r. take at text ++ take n r) e
              ∙ ap (λ front. front ++ take n rest) is.before
              ∙ flat_map_more (λ line. line) [] (take lines (pieces text)) (take n rest)
              ∙ ap joined (sym (ap (λ m. take m (pieces text)) (add-one lines) ∙ next.0));
          rest = ap (λ m. drop m (pieces text)) (add-one lines) ∙ next.1 ∙ ap pieces (sym place);
          count = omega arith;
          whole = subst IsUtf8 (sym place) (rest_whole rest (subst IsUtf8 e is.whole));
        }

-- What stands behind the place are the other physical lines.
pub behind-is : (text : List ℕ) (lines at : ℕ) → IsBehind text lines at → drop at text ≡ behind lines text
behind-is text lines at is =
    sym (ap joined is.rest ∙ sym (concat_is (pieces (drop at text))) ∙ concat-pieces (drop at text))

-- Where there are further ones, the text goes on.
pub more_left : (text : List ℕ) (lines at : ℕ) → IsBehind text lines at → lines < length (pieces text)
    → at < length text
more_left text lines at is more = by _ refl
  where
    by : (v : Bool) → nat_lt at (length text) ≡ v → at < length text
    by true e = ltb-true _ _ e
    by false e =
        let none : length (drop lines (pieces text)) ≡ 0 =
        ap length (is.rest ∙ ap pieces (drop_all at text (ltb-false _ _ e))) in
        absurd (omega (arith, length-drop lines (pieces text)))

-- What the code reads from a place on.
pub rest_len : (text bytes : List ℕ) (at n : ℕ) → bytes ≡ text
    → n ≡ piece_len (take (length bytes - at) (drop at bytes)) → n ≡ piece_len (drop at text)
rest_len text bytes at n same is =
    let size = length-drop at bytes in
    is ∙ ap piece_len (take_all (length bytes - at) (drop at bytes) (omega arith))
    ∙ ap (λ t. piece_len (drop at t)) same
