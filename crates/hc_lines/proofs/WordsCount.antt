-- The words of a text, one after the other.
use Rattle.hc_lines.proofs.Common.{◌≡◌, ℕ, zero, suc, ◌+◌, ◌&&◌, ◌<◌, ◌≤◌, Bool, true, false}
use Rattle.hc_lines.proofs.Common.{cond, List, [], ◌∷◌, ◌++◌, length, take, drop, slice_index, Option, Some}
use Rattle.hc_lines.proofs.Common.{None, refl, sym, ap, subst, ◌∙◌, arith, append_assoc, length-drop, prefix_len}
use Rattle.hc_lines.proofs.Common.{position_or_len, option_map, drop_more, nil_from_length, is_blank, First}
use Rattle.hc_lines.proofs.Common.{is_backslash, nothing, unclosed, word, conf_spelling, first_word, is_quote}
use Rattle.hc_lines.proofs.Common.{quoted_word, read_words, rewrite_spelling, skip_blanks, unescaped_blank, with_first}
use Rattle.hc_lines.proofs.Common.{words_of, words_within, spelling_view}
use Rattle.hc_lines.specs.Words as Words
use Rattle.hc_lines.specs.declared.words.Spelling.{Spelling}
use Rattle.hc_lines.specs.declared.words.Spelling.TheVariants.{Conf, Rewrite}

-- ---- each word takes a byte

-- A word without quotes isn't empty.
abbrev Advances : Words.Spelling → Type 0
Advances spelling = (b : ℕ) (bs : List ℕ) → is_blank b ≡ false → 0 < spelling.plain_end (b ∷ bs)

advances : (spelling : Spelling) → Advances (spelling_view spelling)
advances Conf b bs isnt = let e : position_or_len is_blank (b ∷ bs) ≡ 1 + position_or_len is_blank bs = rw isnt in
    omega arith
advances Rewrite b [] isnt = let e : unescaped_blank (b ∷ []) ≡ 1 = ap (λ t. cond t 0 1) isnt in omega arith
advances Rewrite b (c ∷ bs) isnt =
    rw isnt (elim (is_backslash b && is_blank c)
    as (λ t. 0 < cond t (suc (suc (unescaped_blank bs))) (suc (unescaped_blank (c ∷ bs))))
    [ true ↦ omega arith | false ↦ omega arith ])

-- What follows a word is shorter than this.
abbrev Shortens : ℕ → First → Type 0
Shortens n nothing = Unit {0}
Shortens n unclosed = Unit {0}
Shortens n (word text rest) = length rest < n

longer : (n : ℕ) (first : First) → Shortens n first → Shortens (suc n) first
longer n nothing h = tt
longer n unclosed h = tt
longer n (word text rest) h = omega arith

dropped : (n : ℕ) (b : ℕ) (bs : List ℕ) → 0 < n → length (drop n (b ∷ bs)) < suc (length bs)
dropped n b bs h = omega (arith, length-drop n (b ∷ bs))

quoted_shortens : (spelling : Words.Spelling) (quote : ℕ) (text : List ℕ) (end : Option ℕ)
    → Shortens (suc (length text)) (quoted_word spelling quote text end)
quoted_shortens spelling quote text None = tt
quoted_shortens spelling quote text (Some end) = omega (arith, length-drop (suc end) text)

word_shortens : (spelling : Words.Spelling) → Advances spelling → (b : ℕ) (bs : List ℕ) → is_blank b ≡ false
    → Shortens (suc (length bs)) (first_word spelling (b ∷ bs))
word_shortens spelling on b bs isnt =
    let plain : First = word (spelling.plain (take (spelling.plain_end (b ∷ bs)) (b ∷ bs)))
    (drop (spelling.plain_end (b ∷ bs)) (b ∷ bs)) in
    elim (is_quote b)
    as (λ t. Shortens (suc (length bs)) (cond t (quoted_word spelling b bs (spelling.closing b bs)) plain)) [
      | true ↦ quoted_shortens spelling b bs (spelling.closing b bs)
      | false ↦ dropped (spelling.plain_end (b ∷ bs)) b bs (on b bs isnt)
    ]

skip_over : (b : ℕ) (bs : List ℕ) → skip_blanks (b ∷ bs) ≡ cond (is_blank b) (skip_blanks bs) (b ∷ bs)
skip_over b bs =
    elim (is_blank b) as (λ t. drop (cond t (1 + prefix_len is_blank bs) 0) (b ∷ bs)
    ≡ cond t (skip_blanks bs) (b ∷ bs)) [
      | true ↦ (let e : 1 + prefix_len is_blank bs ≡ suc (prefix_len is_blank bs) = omega arith in
          ap (λ n. drop n (b ∷ bs)) e)
      | false ↦ refl
    ]

first_shortens : (spelling : Words.Spelling) → Advances spelling → (text : List ℕ)
    → Shortens (length text) (first_word spelling (skip_blanks text))
first_shortens spelling on [] = tt
first_shortens spelling on (b ∷ bs) =
    let P : List ℕ → Type 0 = λ text. Shortens (suc (length bs)) (first_word spelling text) in
    let cases : (t : Bool) → is_blank b ≡ t → P (cond t (skip_blanks bs) (b ∷ bs)) =
    λ t. elim t as (λ t. is_blank b ≡ t → P (cond t (skip_blanks bs) (b ∷ bs))) [
      | true ↦ λ _. longer (length bs) _ (first_shortens spelling on bs)
      | false ↦ λ isnt. word_shortens spelling on b bs isnt
    ] in
    subst P (sym (skip_over b bs)) (cases (is_blank b) refl)

-- ---- the count doesn't matter

same_more : (n : ℕ) (first : First) (more other : List ℕ → Option (List (List ℕ))) → Shortens n first
    → ((rest : List ℕ) → length rest < n → more rest ≡ other rest)
    → with_first first more ≡ with_first first other
same_more n nothing more other h e = refl
same_more n unclosed more other h e = refl
same_more n (word text rest) more other h e = ap (option_map (λ words. text ∷ words)) (e rest h)

enough : (spelling : Words.Spelling) → Advances spelling → (m n : ℕ) (text : List ℕ) → length text ≤ m
    → length text ≤ n → words_within spelling m text ≡ words_within spelling n text
enough spelling on zero zero text l k = refl
enough spelling on zero (suc n) text l k =
    let e : text ≡ [] = nil_from_length text (omega arith) in
    ap (λ t. with_first (first_word spelling (skip_blanks t)) (words_within spelling n)) (sym e)
enough spelling on (suc m) zero text l k =
    let e : text ≡ [] = nil_from_length text (omega arith) in
    ap (λ t. with_first (first_word spelling (skip_blanks t)) (words_within spelling m)) e
enough spelling on (suc m) (suc n) text l k =
    same_more (length text) (first_word spelling (skip_blanks text)) (words_within spelling m) (words_within spelling n)
    (first_shortens spelling on text)
    (λ rest s. enough spelling on m n rest (omega arith) (omega arith))

-- The words of a text are its first one and those of what follows it.
words_of-next : (spelling : Spelling) (text : List ℕ) → let view = spelling_view spelling in
    words_of view text ≡ with_first (first_word view (skip_blanks text)) (words_of view)
words_of-next spelling text =
    let view = spelling_view spelling in
    enough view (advances spelling) (length text) (suc (length text)) text (omega arith) (omega arith)
    ∙ same_more (length text) (first_word view (skip_blanks text)) (words_within view (length text)) (words_of view)
    (first_shortens view (advances spelling) text)
    (λ rest s. enough view (advances spelling) (length text) (length rest) rest (omega arith) (omega arith))

-- ---- the words so far and those of the rest

-- These words before others.
abbrev pub after : List (List ℕ) → Option (List (List ℕ)) → Option (List (List ℕ))
after words more = option_map (λ more. words ++ more) more

after_word : (words : List (List ℕ)) (text : List ℕ) (more : Option (List (List ℕ)))
    → after words (option_map (λ more. text ∷ more) more) ≡ after (words ++ text ∷ []) more
after_word words text None = refl
after_word words text (Some more) = ap Some (sym (append_assoc words (text ∷ []) more))

-- What the first word of what is left says of all words, with those that came before.
pub words_on : (spelling : Spelling) (before now : List (List ℕ)) (rest text said behind : List ℕ)
    → first_word (spelling_view spelling) (skip_blanks rest) ≡ word text behind
    → now ≡ before ++ said ∷ [] → said ≡ text → after before (words_of (spelling_view spelling) rest)
    ≡ after now (words_of (spelling_view spelling) behind)
words_on spelling before now rest text said behind first pushed is =
    let view = spelling_view spelling in
    ap (after before) (words_of-next spelling rest ∙ ap (λ first. with_first first (words_of view)) first)
    ∙ after_word before text (words_of view behind)
    ∙ ap (λ words. after words (words_of view behind)) (sym (pushed ∙ ap (λ said. before ++ said ∷ []) is))

pub words_unclosed : (spelling : Spelling) (before : List (List ℕ)) (rest : List ℕ)
    → first_word (spelling_view spelling) (skip_blanks rest) ≡ unclosed
    → after before (words_of (spelling_view spelling) rest) ≡ None
words_unclosed spelling before rest e =
    ap (after before)
    (words_of-next spelling rest ∙ ap (λ first. with_first first (words_of (spelling_view spelling))) e)

pub words_shorter : (spelling : Spelling) (rest text behind : List ℕ)
    → first_word (spelling_view spelling) (skip_blanks rest) ≡ word text behind → length behind < length rest
words_shorter spelling rest text behind e =
    subst (Shortens (length rest)) e (first_shortens (spelling_view spelling) (advances spelling) rest)

-- ---- blanks before a word

pub skipped : (text : List ℕ) (i : ℕ) → i < length text → is_blank (slice_index text i) ≡ true
    → skip_blanks (drop i text) ≡ skip_blanks (drop (i + 1) text)
skipped text i l is = ap skip_blanks (drop_more text i 0 l) ∙ skip_over (slice_index text i) (drop (i + 1) text)
    ∙ ap (λ t. cond t (skip_blanks (drop (i + 1) text)) (slice_index text i ∷ drop (i + 1) text)) is
