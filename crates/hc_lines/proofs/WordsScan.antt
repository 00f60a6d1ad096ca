-- Steps over bytes in which a backslash may make the next byte plain.
use Rattle.hc_lines.proofs.Common.{◌≡◌, ℕ, suc, ◌+◌, ◌-◌, ◌==◌, ◌<◌, Bool, true, false}
use Rattle.hc_lines.proofs.Common.{◌&&◌, ◌||◌, cond, List, [], ◌∷◌, ◌++◌, length, take, drop}
use Rattle.hc_lines.proofs.Common.{slice_index, Option, Some, None, refl, sym, ap, subst, ◌∙◌, arith}
use Rattle.hc_lines.proofs.Common.{append_assoc, option_map, drop-drop, drop_more, take_more, take_rest, backslash}
use Rattle.hc_lines.proofs.Common.{double_quote, single_quote, is_blank, is_backslash, is_escapable_in, unescaped}
use Rattle.hc_lines.proofs.Common.{unescaped_blank, unescaped_quote, begins_escape, escapable_view, spelled_len}
use mathlib.Core.Logic.{⊎_elim}
use Rattle.std.proofs.lemmas.Bool.{and_parts, cond-true, eqb-true, false≢true, or_cases}
use Rattle.hc_base.proofs.Shared.{blank_ascii}
use Rattle.hc_lines.specs.declared.escape.Escapable.{Escapable}
use Rattle.hc_lines.specs.declared.escape.Escapable.TheVariants.{Backslash, Within, Blank}
use Rattle.hc_lines.specs.declared.escape.Quote.TheVariants.{Double, Single}

-- ---- to the end of a word

-- What holds of the bytes from a place on, if it holds of any that begin with the byte there.
stepped : {X : Type 0} (f : List ℕ → X) (shift : ℕ → X → X) (esc : ℕ → Bool) (bytes : List ℕ)
    (i n : ℕ) → i < length bytes → n ≡ spelled_len esc (take (length bytes - i) (drop i bytes))
    → ((bs : List ℕ) → let all = slice_index bytes i ∷ bs in
    f all ≡ shift (spelled_len esc all) (f (drop (spelled_len esc all) all)))
    → f (drop i bytes) ≡ shift n (f (drop (i + n) bytes))
stepped f shift esc bytes i n l e over =
    let P : List ℕ → Type 0 = λ all. f all ≡ shift (spelled_len esc all) (f (drop (spelled_len esc all) all)) in
    let m : n ≡ spelled_len esc (drop i bytes) = e ∙ ap (spelled_len esc) (take_rest bytes i) in
    subst P (sym (drop_more bytes i 0 l)) (over (drop (i + 1) bytes)) ∙ ap (λ k. shift k (f (drop k (drop i bytes))))
    (sym m) ∙ ap (λ bs. shift n (f bs)) (drop-drop n i bytes)

blank_over : (b : ℕ) (bs : List ℕ) → is_blank b ≡ false → let n = spelled_len is_blank (b ∷ bs) in
    unescaped_blank (b ∷ bs) ≡ n + unescaped_blank (drop n (b ∷ bs))
blank_over b [] e = ap (λ t. cond t 0 1) e
blank_over b (c ∷ bs) e =
    ap (λ t. cond t 0
    (cond (is_backslash b && is_blank c) (suc (suc (unescaped_blank bs))) (suc (unescaped_blank (c ∷ bs))))) e
    ∙ elim (is_backslash b && is_blank c)
    as (λ t. cond t (suc (suc (unescaped_blank bs))) (suc (unescaped_blank (c ∷ bs)))
    ≡ cond t 2 1 + unescaped_blank (drop (cond t 2 1) (b ∷ c ∷ bs)))
    [ true ↦ omega arith | false ↦ omega arith ]

pub blank_step : (bytes : List ℕ) (i n : ℕ) → i < length bytes → is_blank (slice_index bytes i) ≡ false
    → n ≡ spelled_len is_blank (take (length bytes - i) (drop i bytes)) → unescaped_blank (drop i bytes)
    ≡ n + unescaped_blank (drop (i + n) bytes)
blank_step bytes i n l isnt e = stepped unescaped_blank (λ k m. k + m) is_blank bytes i n l e
    (λ bs. blank_over (slice_index bytes i) bs isnt)

blank_first : (b : ℕ) (bs : List ℕ) → is_blank b ≡ true → unescaped_blank (b ∷ bs) ≡ 0
blank_first b [] e = ap (λ t. cond t 0 1) e
blank_first b (c ∷ bs) e = cond-true (is_blank b) 0 _ e

pub blank_here : (bytes : List ℕ) (i : ℕ) → i < length bytes → is_blank (slice_index bytes i) ≡ true
    → unescaped_blank (drop i bytes) ≡ 0
blank_here bytes i l is = ap unescaped_blank (drop_more bytes i 0 l)
    ∙ blank_first (slice_index bytes i) (drop (i + 1) bytes) is

-- A place, from an earlier place on.
abbrev pub moved : ℕ → Option ℕ → Option ℕ
moved i place = option_map (λ n. i + n) place

pub moved-zero : (place : Option ℕ) → place ≡ moved 0 place
moved-zero None = refl
moved-zero (Some n) = ap Some (omega arith)

moved-moved : (i k : ℕ) (place : Option ℕ) → moved i (moved k place) ≡ moved (i + k) place
moved-moved i k None = refl
moved-moved i k (Some n) = ap Some (omega arith)

same_move : (f : ℕ → ℕ) (i : ℕ) → ((n : ℕ) → f n ≡ i + n) → (place : Option ℕ)
    → option_map f place ≡ moved i place
same_move f i e None = refl
same_move f i e (Some n) = ap Some (e n)

quote_over : (quote b : ℕ) (bs : List ℕ) → (b == quote) ≡ false → let n =
    spelled_len (is_escapable_in quote) (b ∷ bs) in unescaped_quote quote (b ∷ bs)
    ≡ moved n (unescaped_quote quote (drop n (b ∷ bs)))
quote_over quote b [] e = ap (λ t. cond t (Some 0) None) e
quote_over quote b (c ∷ bs) e =
    let two = option_map (λ n. suc (suc n)) (unescaped_quote quote bs) in
    let one = option_map suc (unescaped_quote quote (c ∷ bs)) in
    ap (λ t. cond t (Some 0) (cond (is_backslash b && is_escapable_in quote c) two one)) e
    ∙ elim (is_backslash b && is_escapable_in quote c)
    as (λ t. cond t two one ≡ moved (cond t 2 1) (unescaped_quote quote (drop (cond t 2 1) (b ∷ c ∷ bs)))) [
      | true ↦ same_move (λ n. suc (suc n)) 2 (λ n. omega arith) (unescaped_quote quote bs)
      | false ↦ same_move suc 1 (λ n. omega arith) (unescaped_quote quote (c ∷ bs))
    ]

pub quote_step : (quote : ℕ) (bytes : List ℕ) (i n : ℕ) → i < length bytes → (slice_index bytes i == quote)
    ≡ false → n ≡ spelled_len (is_escapable_in quote) (take (length bytes - i) (drop i bytes))
    → moved i (unescaped_quote quote (drop i bytes)) ≡ moved (i + n) (unescaped_quote quote (drop (i + n) bytes))
quote_step quote bytes i n l isnt e =
    ap (moved i)
    (stepped (unescaped_quote quote) moved (is_escapable_in quote) bytes i n l e
    (λ bs. quote_over quote (slice_index bytes i) bs isnt))
    ∙ moved-moved i n (unescaped_quote quote (drop (i + n) bytes))

quote_first : (quote b : ℕ) (bs : List ℕ) → (b == quote) ≡ true → unescaped_quote quote (b ∷ bs) ≡ Some 0
quote_first quote b [] e = ap (λ t. cond t (Some 0) None) e
quote_first quote b (c ∷ bs) e = cond-true (b == quote) (Some 0) _ e

pub quote_here : (quote : ℕ) (bytes : List ℕ) (i : ℕ) → i < length bytes → (slice_index bytes i == quote)
    ≡ true → moved i (unescaped_quote quote (drop i bytes)) ≡ Some i
quote_here quote bytes i l is =
    let zero : i + 0 ≡ i = omega arith in
    ap (λ bs. moved i (unescaped_quote quote bs)) (drop_more bytes i 0 l)
    ∙ ap (moved i) (quote_first quote (slice_index bytes i) (drop (i + 1) bytes) is) ∙ ap Some zero

-- ---- from escape to escape

kept_over : (esc : ℕ → Bool) (b : ℕ) (bs : List ℕ) → begins_escape esc (b ∷ bs) ≡ false
    → unescaped esc (b ∷ bs) ≡ b ∷ unescaped esc bs
kept_over esc b [] e = refl
kept_over esc b (c ∷ bs) e = ap (λ t. cond t (c ∷ unescaped esc bs) (b ∷ unescaped esc (c ∷ bs))) e

pub kept_step : (esc : ℕ → Bool) (bytes : List ℕ) (i : ℕ) → i < length bytes
    → begins_escape esc (take (length bytes - i) (drop i bytes)) ≡ false
    → take i bytes ++ unescaped esc (drop i bytes) ≡ take (i + 1) bytes ++ unescaped esc (drop (i + 1) bytes)
kept_step esc bytes i l e =
    let more : drop i bytes ≡ slice_index bytes i ∷ drop (i + 1) bytes = drop_more bytes i 0 l in
    let none : begins_escape esc (slice_index bytes i ∷ drop (i + 1) bytes) ≡ false =
    ap (begins_escape esc) (sym (take_rest bytes i ∙ more)) ∙ e in
    ap (λ bs. take i bytes ++ bs)
    (ap (unescaped esc) more ∙ kept_over esc (slice_index bytes i) (drop (i + 1) bytes) none)
    ∙ sym (append_assoc (take i bytes) (slice_index bytes i ∷ []) (unescaped esc (drop (i + 1) bytes)))
    ∙ ap (λ bs. bs ++ unescaped esc (drop (i + 1) bytes)) (sym (take_more bytes i 0 l))

either_ascii : (b x y : ℕ) → x < 128 → y < 128 → ((b == x) || (b == y)) ≡ true → b < 128
either_ascii b x y l m e =
    ⊎_elim (λ (k : (b == x) ≡ true). omega (arith, eqb-true b x k))
    (λ (k : (b == y) ≡ true). omega (arith, eqb-true b y k)) (or_cases (b == x) (b == y) e)

-- What the code looks for behind a backslash is ASCII.
escapable_ascii : (self : Escapable) (b : ℕ) → escapable_view self b ≡ true → b < 128
escapable_ascii Backslash b e = omega (arith, eqb-true b backslash e)
escapable_ascii (Within Double) b e = either_ascii b backslash double_quote (omega arith) (omega arith) e
escapable_ascii (Within Single) b e = either_ascii b backslash single_quote (omega arith) (omega arith) e
escapable_ascii Blank b e = blank_ascii b e

-- Bytes that begin with a backslash that makes the next one plain, and what is behind it.
pub record IsEscape (esc : ℕ → Bool) (bytes behind : List ℕ) : Type 0 where
  pub first : slice_index bytes 0 ≡ backslash
  pub within : 0 < length behind
  pub next : slice_index behind 0 < 128
  pub says : unescaped esc bytes ≡ take 1 behind ++ unescaped esc (drop 1 behind)

pub escape_is : (self : Escapable) (bytes : List ℕ) → begins_escape (escapable_view self) bytes ≡ true
    → IsEscape (escapable_view self) bytes (drop 1 bytes)
escape_is self [] e = absurd (false≢true e)
escape_is self (b ∷ []) e = absurd (false≢true e)
escape_is self (b ∷ c ∷ bs) e =
    let esc = escapable_view self in
    let parts = and_parts (is_backslash b) (esc c) e in
    record {
      first = eqb-true b backslash parts.0;
      within = omega arith;
      next = escapable_ascii self c parts.1;
      says = ap (λ t. cond t (c ∷ unescaped esc bs) (b ∷ unescaped esc (c ∷ bs))) e;
    }
