-- What the spellings, quotes, escapes and pieces of the code stand for.
use Rattle.std.specs.Prelude.{ℕ, List, [], ◌∷◌, Bool, false, ◌&&◌, if◌then◌else◌, Option, Some, None}
use Rattle.hc_base.specs.Bytes.{double_quote, single_quote}
use Rattle.hc_base.specs.Lines.{is_blank}
use Rattle.hc_lines.specs.Words.{First, nothing, word, conf_spelling, is_backslash, is_escapable_in, rewrite_spelling}
use Rattle.hc_lines.specs.Words as Words
use Rattle.hc_lines.specs.declared.escape.Escapable.{Escapable}
use Rattle.hc_lines.specs.declared.escape.Escapable.TheVariants.{Backslash, Within, Blank}
use Rattle.hc_lines.specs.declared.words.Spelled.{Spelled}
use Rattle.hc_lines.specs.declared.escape.Quote.{Quote}
use Rattle.hc_lines.specs.declared.escape.Quote.TheVariants.{Double, Single}
use Rattle.hc_lines.specs.declared.words.Spelling.{Spelling}
use Rattle.hc_lines.specs.declared.words.Spelling.TheVariants.{Conf, Rewrite}

abbrev pub spelling_view : Spelling → Words.Spelling
spelling_view Conf = conf_spelling
spelling_view Rewrite = rewrite_spelling

abbrev pub quote_view : Quote → ℕ
quote_view Double = double_quote
quote_view Single = single_quote

abbrev pub escapable_view : Escapable → ℕ → Bool
escapable_view Backslash = is_backslash
escapable_view (Within quote) = is_escapable_in (quote_view quote)
escapable_view Blank = is_blank

-- The bytes begin with a backslash that makes the next one plain.
abbrev pub begins_escape : (ℕ → Bool) → List ℕ → Bool
begins_escape is_escapable [] = false
begins_escape is_escapable (b ∷ []) = false
begins_escape is_escapable (b ∷ c ∷ bs) = is_backslash b && is_escapable c

-- With how many bytes the first byte is spelled.
abbrev pub spelled_len : (ℕ → Bool) → List ℕ → ℕ
spelled_len is_escapable bytes = if begins_escape is_escapable bytes then 2 else 1

-- What a word says that stands in these quotes, or in none.
abbrev pub said : Words.Spelling → Option Quote → List ℕ → List ℕ
said spelling None bytes = spelling.plain bytes
said spelling (Some quote) bytes = spelling.quoted (quote_view quote) bytes

abbrev pub first_view : Words.Spelling → Option Spelled → First
first_view spelling None = nothing
first_view spelling (Some piece) = word (said spelling piece.quote piece.word.now) piece.rest.now
