-- A text is read from line to line.
use Rattle.hc_world.proofs.Common.{◌≡◌, ℕ, zero, suc, ◌+◌, ◌-◌, ◌<◌, ◌≤◌, Bool, true, false}
use Rattle.hc_world.proofs.Common.{cond, List, [], ◌∷◌, ◌++◌, length, take, drop, slice_index, Some, None}
use Rattle.hc_world.proofs.Common.{refl, sym, ap, ◌∙◌, subst, inl, inr, ◌⊎◌, arith, ⊎_elim, eqb-true}
use Rattle.hc_world.proofs.Common.{nat_le, nat_lt, le-leb, not, ◌&&◌, take-append-drop, drop_all, take_all}
use Rattle.std.proofs.Common.{add-one}
use Rattle.std.specs.List.{flat_map, position, position_or_len}
use Rattle.std.specs.Str.{IsUtf8}
use Rattle.std.proofs.lemmas.Bool.Decides.{nat_tests}
use Rattle.std.proofs.lemmas.List.{drop-drop, drop-take, flat_map_more, length-drop, take-take}
use Rattle.std.proofs.lemmas.Str.{IsCharBoundary-after_ascii, IsUtf8-drop, IsUtf8-nil}
use Rattle.hc_base.specs.Lines.{is_lf, onto_piece, pieces}
use Rattle.hc_world.specs.Edits.{is_range, spliced}
use Rattle.hc_world.specs.Lines.{IsBehind, edited, line_len}

abbrev joined : List (List ℕ) → List ℕ
joined lines = flat_map (λ line. line) lines

-- ---- the first line

line_len-fits : (text : List ℕ) → line_len text ≤ length text
line_len-fits [] = omega arith
line_len-fits (b ∷ bs) = let rest = line_len-fits bs in
    elim (is_lf b) as (λ v. cond v 1 (line_len bs + 1) ≤ suc (length bs))
    [ true ↦ omega arith | false ↦ omega arith ]

line_len-is : (text : List ℕ) → line_len text ≡ cond (nat_lt (position_or_len is_lf text) (length text))
    (position_or_len is_lf text + 1) (length text)
line_len-is [] = refl
line_len-is (b ∷ bs) =
    elim (is_lf b)
    as (λ v. cond v 1 (line_len bs + 1)
    ≡ cond (nat_lt (cond (not v) (1 + position_or_len is_lf bs) 0) (suc (length bs)))
    (cond (not v) (1 + position_or_len is_lf bs) 0 + 1) (suc (length bs))) [
      | true ↦ grind (arith, nat_tests)
      | false ↦ grind (arith, nat_tests, line_len-is bs)
    ]

pub line_len-found : (text : List ℕ) (lf : ℕ) → Some lf ≡ position is_lf text → lf + 1 ≡ line_len text
line_len-found text lf is = by _ refl is
  where
    by : (v : Bool) → nat_lt (position_or_len is_lf text) (length text) ≡ v
        → Some lf ≡ cond v (Some (position_or_len is_lf text)) None → lf + 1 ≡ line_len text
    by true e h = let same : lf ≡ position_or_len is_lf text = cc in ap (λ n. n + 1) same
        ∙ sym (line_len-is text ∙ ap (λ v. cond v (position_or_len is_lf text + 1) (length text)) e)
    by false e h = cc

pub line_len-none : (text : List ℕ) → None ≡ position is_lf text → length text ≡ line_len text
line_len-none text is = by _ refl is
  where
    by : (v : Bool) → nat_lt (position_or_len is_lf text) (length text) ≡ v
        → None ≡ cond v (Some (position_or_len is_lf text)) None → length text ≡ line_len text
    by true e h = cc
    by false e h = sym (line_len-is text ∙ ap (λ v. cond v (position_or_len is_lf text + 1) (length text)) e)

drop_one : (b : ℕ) (bs : List ℕ) (n : ℕ) → drop (n + 1) (b ∷ bs) ≡ drop n bs
drop_one b bs n = ap (λ m. drop m (b ∷ bs)) (add-one n)

take_one : (b : ℕ) (bs : List ℕ) (n : ℕ) → take (n + 1) (b ∷ bs) ≡ b ∷ take n bs
take_one b bs n = ap (λ m. take m (b ∷ bs)) (add-one n)

pieces_first : (b : ℕ) (bs : List ℕ) → pieces (b ∷ bs) ≡ take (line_len (b ∷ bs)) (b ∷ bs)
    ∷ pieces (drop (line_len (b ∷ bs)) (b ∷ bs))
pieces_first b [] =
    elim (is_lf b) as (λ v. cond v ((b ∷ []) ∷ pieces []) (onto_piece b (pieces []))
    ≡ take (cond v 1 (0 + 1)) (b ∷ []) ∷ pieces (drop (cond v 1 (0 + 1)) (b ∷ [])))
    [ true ↦ refl | false ↦ refl ]
pieces_first b (c ∷ cs) =
    let bs = c ∷ cs in
    let n = line_len bs in
    elim (is_lf b) as (λ v. cond v ((b ∷ []) ∷ pieces bs) (onto_piece b (pieces bs))
    ≡ take (cond v 1 (n + 1)) (b ∷ bs) ∷ pieces (drop (cond v 1 (n + 1)) (b ∷ bs))) [
      | true ↦ refl
      | false ↦ ap (onto_piece b) (pieces_first c cs)
          ∙ sym (ap (λ line. line ∷ pieces (drop (n + 1) (b ∷ bs))) (take_one b bs n)
          ∙ ap (λ rest. (b ∷ take n bs) ∷ pieces rest) (drop_one b bs n))
    ]

-- It ends behind an LF, or the text ends.
line_end : (text : List ℕ) → (drop (line_len text) text ≡ [])
    ⊎ ((k : ℕ) × (line_len text ≡ k + 1) × (k < length text) × (slice_index text k ≡ 10))
line_end [] = inl refl
line_end (b ∷ bs) =
    elim (is_lf b) as (λ v. is_lf b ≡ v → (drop (cond v 1 (line_len bs + 1)) (b ∷ bs) ≡ [])
    ⊎ ((k : ℕ) × (cond v 1 (line_len bs + 1) ≡ k + 1) × (k < length (b ∷ bs))
    × (slice_index (b ∷ bs) k ≡ 10))) [
      | true ↦ λ e. inr (0, refl, omega arith, eqb-true b 10 e)
      | false ↦ λ _. ⊎_elim
          (λ all. inl (drop_one b bs (line_len bs) ∙ all))
          (λ lf. let size = lf.1 in let room = lf.2 in inr (suc lf.0, omega arith, omega arith, lf.3))
          (line_end bs)
    ] refl

rest_whole : (text : List ℕ) → IsUtf8 text → IsUtf8 (drop (line_len text) text)
rest_whole text whole = ⊎_elim
    (λ all. subst IsUtf8 (sym all) IsUtf8-nil)
    (λ lf. subst (λ n. IsUtf8 (drop n text)) (sym lf.1)
    (IsUtf8-drop text (lf.0 + 1) whole (IsCharBoundary-after_ascii text lf.0 whole lf.2 (below lf.3))))
    (line_end text)
  where
    below : {x : ℕ} → x ≡ 10 → x < 128
    below e = omega arith

-- ---- line after line

pub IsBehind-none : (text : List ℕ) → IsUtf8 text → IsBehind text 0 0
IsBehind-none text whole =
    record { within = omega arith; before = refl; behind = refl; count = omega arith; whole = whole }

next_of : (k : ℕ) (lines more : List (List ℕ)) (line : List ℕ) → drop k lines ≡ line ∷ more
    → (take (suc k) lines ≡ take k lines ++ line ∷ []) × (drop (suc k) lines ≡ more) × (k < length lines)
next_of zero [] more line e = cc
next_of zero (l ∷ ls) more line e = let head : l ≡ line = cc in let tail : ls ≡ more = cc in
    (ap (λ x. x ∷ []) head, tail, omega arith)
next_of (suc k) [] more line e = cc
next_of (suc k) (l ∷ ls) more line e = let rest = next_of k ls more line e in let room = rest.2 in
    (ap (λ x. l ∷ x) rest.0, rest.1, omega arith)

take_sum : (m n : ℕ) (text : List ℕ) → take (m + n) text ≡ take m text ++ take n (drop m text)
take_sum m n text =
    sym (take-append-drop m (take (m + n) text)) ∙ ap (λ front. front ++ drop m (take (m + n) text))
    (take-take m (m + n) text (omega arith)) ∙ ap (λ rest. take m text ++ rest) (drop-take m n text)

pub IsBehind-more : (text : List ℕ) (lines at : ℕ) → IsBehind text lines at → at < length text
    → IsBehind text (lines + 1) (at + line_len (drop at text))
IsBehind-more text lines at is more = by (drop at text) refl
  where
    by : (rest : List ℕ) → drop at text ≡ rest → IsBehind text (lines + 1) (at + line_len rest)
    by [] e = let none : length (drop at text) ≡ 0 = ap length e in absurd (omega (arith, length-drop at text))
    by (b ∷ bs) e =
        let rest = b ∷ bs in
        let n = line_len rest in
        let next = next_of lines (pieces text) (pieces (drop n rest)) (take n rest)
        (is.behind ∙ ap pieces e ∙ pieces_first b bs) in
        let fits : n ≤ length rest = line_len-fits rest in
        let size : length rest ≡ length text - at = ap length (sym e) ∙ length-drop at text in
        let room = is.within in
        let place : drop (at + n) text ≡ drop n rest = sym (drop-drop n at text) ∙ ap (drop n) e in
        let one = next.2 in
        record {
          within = omega arith;
          before = take_sum at n text ∙ ap (λ r. take at text ++ take n r) e
              ∙ ap (λ front. front ++ take n rest) is.before
              ∙ flat_map_more (λ line. line) [] (take lines (pieces text)) (take n rest)
              ∙ ap joined (sym (ap (λ m. take m (pieces text)) (add-one lines) ∙ next.0));
          behind = ap (λ m. drop m (pieces text)) (add-one lines) ∙ next.1 ∙ ap pieces (sym place);
          count = omega arith;
          whole = subst IsUtf8 (sym place) (rest_whole rest (subst IsUtf8 e is.whole));
        }

-- At the end of a text there are no further lines.
pub no_lines_left : (text : List ℕ) (lines at : ℕ) → IsBehind text lines at → at ≡ length text
    → length (pieces text) ≤ lines
no_lines_left text lines at is end =
    let none : length (drop lines (pieces text)) ≡ 0 =
    ap length (is.behind ∙ ap pieces (drop_all at text (omega arith))) in
    omega (arith, length-drop lines (pieces text))

-- A text is its lines.
pub joined-pieces : (text : List ℕ) → joined (pieces text) ≡ text
joined-pieces [] = refl
joined-pieces (b ∷ bs) =
    elim (is_lf b) as (λ v. joined (cond v ((b ∷ []) ∷ pieces bs) (onto_piece b (pieces bs))) ≡ b ∷ bs) [
      | true ↦ ap (λ l. b ∷ l) (joined-pieces bs)
      | false ↦ onto (pieces bs) ∙ ap (λ l. b ∷ l) (joined-pieces bs)
    ]
  where
    onto : (lines : List (List ℕ)) → joined (onto_piece b lines) ≡ b ∷ joined lines
    onto [] = refl
    onto (line ∷ lines) = refl

-- What the code reads from a place on.
pub rest_len : (text bytes : List ℕ) (at n : ℕ) → bytes ≡ text
    → n ≡ line_len (take (length bytes - at) (drop at bytes)) → n ≡ line_len (drop at text)
rest_len text bytes at n same is =
    let size = length-drop at bytes in
    is ∙ ap line_len (take_all (length bytes - at) (drop at bytes) (omega arith))
    ∙ ap (λ t. line_len (drop at t)) same

-- ---- lines are replaced

in_range : (lines from to : ℕ) → 0 < from → from - 1 ≤ to → to ≤ lines → is_range lines from to ≡ true
in_range lines from to some order few =
    all (nat_le 1 from) (nat_le from (lines + 1)) (nat_le (from - 1) to) (nat_le to lines)
    (le-leb 1 from (omega arith)) (le-leb from (lines + 1) (omega arith)) (le-leb (from - 1) to order)
    (le-leb to lines few)
  where
    all : (a b c d : Bool) → a ≡ true → b ≡ true → c ≡ true → d ≡ true → (a && b && c && d) ≡ true
    all a b c d e f g h = rw (e, f, g, h) refl

pub edited-is : (text new bytes : List ℕ) (from to start end : ℕ) → IsBehind text (from - 1) start
    → IsBehind text to end → 0 < from → from - 1 ≤ to → bytes ≡ take start text ++ new ++ drop end text
    → Some bytes ≡ edited text from to new
edited-is text new bytes from to start end first last some order is =
    let lines = pieces text in
    sym (ap (λ b. cond b (Some (spliced lines from to new)) None)
    (in_range (length lines) from to some order last.count)
    ∙ ap Some (ap (λ front. front ++ new ++ joined (drop to lines)) (sym first.before)
    ∙ ap (λ rest. take start text ++ new ++ rest) (ap joined last.behind ∙ joined-pieces (drop end text))
    ∙ sym is))
