-- The words of a directive's line.
-- Apache manual, "Configuration Files": arguments are separated by white space, and one that has
-- blanks stands in quotes. What a backslash does, and that a word ends at its closing quote, is our
-- own choice; it follows httpd's ap_getword_conf and, for rewriting, mod_rewrite's parseargline.
use Rattle.std.specs.Prelude.{ℕ, zero, suc, ◌==◌, List, [], ◌∷◌, length, take, drop, Bool, ◌&&◌}
use Rattle.std.specs.Prelude.{◌||◌, if◌then◌else◌, Option, Some, None, option_map, position, Result, Ok, Err}
use Rattle.std.specs.List.{position_or_len, prefix_len}
use Rattle.hc_base.specs.Bytes.{backslash, double_quote, single_quote}
use Rattle.hc_base.specs.Lines.{is_blank}
use Rattle.hc_base.specs.declared.codes.TheConstants.{UNCLOSED_QUOTE}
use Rattle.hc_base.specs.declared.fault.AtByte.{AtByte}

-- How words are spelled. A quoted word begins with a quote, and another word doesn't.
pub record Spelling : Type 0 where
  -- how many bytes a word without quotes has that a text begins with
  pub plain_end : List ℕ → ℕ
  -- where this quote closes a word, in what follows the quote that begins it
  pub closing : ℕ → List ℕ → Option ℕ
  -- what the bytes of a word without quotes say, and those of one between these quotes
  pub plain : List ℕ → List ℕ
  pub quoted : ℕ → List ℕ → List ℕ

abbrev pub is_quote : ℕ → Bool
is_quote b = (b == double_quote) || (b == single_quote)

-- ---- words of a configuration

-- The bytes that a backslash makes plain: a backslash, and in a quoted word its quote.
abbrev pub is_backslash : ℕ → Bool
is_backslash b = b == backslash

abbrev pub is_escapable_in : ℕ → ℕ → Bool
is_escapable_in quote b = is_backslash b || (b == quote)

-- A backslash before such a byte is dropped; every other one stays.
abbrev pub unescaped : (ℕ → Bool) → List ℕ → List ℕ
unescaped is_escapable [] = []
unescaped is_escapable (b ∷ []) = b ∷ []
unescaped is_escapable (b ∷ c ∷ bs) =
    if is_backslash b && is_escapable c then c ∷ unescaped is_escapable bs
    else b ∷ unescaped is_escapable (c ∷ bs)

-- The first such quote that no backslash makes plain.
abbrev pub unescaped_quote : ℕ → List ℕ → Option ℕ
unescaped_quote quote [] = None
unescaped_quote quote (b ∷ []) = if b == quote then Some 0 else None
unescaped_quote quote (b ∷ c ∷ bs) =
    if b == quote then Some 0
    else (if is_backslash b && is_escapable_in quote c then option_map (λ n. suc (suc n)) (unescaped_quote quote bs)
    else option_map suc (unescaped_quote quote (c ∷ bs)))

abbrev pub conf_spelling : Spelling
conf_spelling = record {
  plain_end = position_or_len is_blank;
  closing = unescaped_quote;
  plain = unescaped is_backslash;
  quoted = λ quote. unescaped (is_escapable_in quote);
}

-- ---- words of RewriteRule and RewriteCond, which keep every backslash

-- A backslash before a blank keeps that blank in the word.
abbrev pub unescaped_blank : List ℕ → ℕ
unescaped_blank [] = 0
unescaped_blank (b ∷ []) = if is_blank b then 0 else 1
unescaped_blank (b ∷ c ∷ bs) =
    if is_blank b then 0
    else (if is_backslash b && is_blank c then suc (suc (unescaped_blank bs))
    else suc (unescaped_blank (c ∷ bs)))

abbrev pub rewrite_spelling : Spelling
rewrite_spelling = record {
  plain_end = unescaped_blank;
  closing = λ quote. position (λ b. b == quote);
  plain = λ word. word;
  quoted = λ quote word. word;
}

-- ---- all words

-- What a text begins with behind its blanks: nothing, a quoted word that has no end, or a word and
-- what follows it.
pub data First : Type 0 where
  nothing : First
  unclosed : First
  word : List ℕ → List ℕ → First

abbrev pub quoted_word : Spelling → ℕ → List ℕ → Option ℕ → First
quoted_word spelling quote text None = unclosed
quoted_word spelling quote text (Some end) = word (spelling.quoted quote (take end text)) (drop (suc end) text)

abbrev pub first_word : Spelling → List ℕ → First
first_word spelling [] = nothing
first_word spelling (b ∷ bs) =
    if is_quote b then quoted_word spelling b bs (spelling.closing b bs)
    else word (spelling.plain (take (spelling.plain_end (b ∷ bs)) (b ∷ bs)))
    (drop (spelling.plain_end (b ∷ bs)) (b ∷ bs))

abbrev pub skip_blanks : List ℕ → List ℕ
skip_blanks text = drop (prefix_len is_blank text) text

abbrev pub with_first : First → (List ℕ → Option (List (List ℕ))) → Option (List (List ℕ))
with_first nothing more = Some []
with_first unclosed more = None
with_first (word text rest) more = option_map (λ words. text ∷ words) (more rest)

-- The words of a text with at most so many words; none where a quoted word has no end.
abbrev pub words_within : Spelling → ℕ → List ℕ → Option (List (List ℕ))
words_within spelling zero text = Some []
words_within spelling (suc count) text =
    with_first (first_word spelling (skip_blanks text)) (words_within spelling count)

-- The words of a text. It has no more of them than bytes.
abbrev pub words_of : Spelling → List ℕ → Option (List (List ℕ))
words_of spelling text = words_within spelling (length text) text

abbrev pub or_unclosed : Option (List (List ℕ)) → Result (List (List ℕ)) AtByte
or_unclosed None = Err (record { code = UNCLOSED_QUOTE; at = 0 })
or_unclosed (Some words) = Ok words

-- The words of a text, or the refusal of a quoted word without its end.
unfoldable pub read_words : Spelling → List ℕ → Result (List (List ℕ)) AtByte
read_words spelling text = or_unclosed (words_of spelling text)
