-- The signs and tests of an expression.
-- Apache manual, "Expressions in Apache HTTP Server". Which of its forms are read is our own choice.
use Rattle.std.specs.Prelude.{ℕ, zero, suc, ◌==◌, ◌||◌, List, [], ◌∷◌, length, Bool, true, false}
use Rattle.std.specs.Prelude.{Option, Some, None, nat_eq, option_and_then, option_map, if◌then◌else◌, codes, drop}
use Rattle.std.specs.Prelude.{take}
use Rattle.std.specs.Char.{is_ascii_alphanumeric, is_ascii_digit}
use Rattle.std.specs.List.{prefix_len, starts_with}
use Rattle.std.specs.Str.{bytes_eq}
use Rattle.hc_base.specs.Bytes.{brace_close, slash}
use Rattle.hc_base.specs.Lines.{is_blank}

-- ---- what a text begins with, and what is behind it

abbrev pub Begins : Type 0 → Type 0
Begins A = List ℕ → Option (A × List ℕ)

-- Whether a text begins with this sign.
abbrev pub begins_with : List ℕ → List ℕ → Bool
begins_with sign text = starts_with nat_eq text sign

-- What stands up to the first byte of this kind, and what is behind that byte.
abbrev pub up_to : ℕ → Begins (List ℕ)
up_to end [] = None
up_to end (b ∷ bs) = if b == end then Some ([], bs) else option_map (λ found. (b ∷ found.0, found.1))
    (up_to end bs)

abbrev pub past_blanks : List ℕ → List ℕ
past_blanks text = drop (prefix_len is_blank text) text

abbrev pub behind : {A B : Type 0} → (A → List ℕ → Option B) → Option (A × List ℕ) → Option B
behind next found = option_and_then (λ found. next found.0 found.1) found

-- ---- operands

pub data Operand : Type 0 where
  -- %{NAME}
  variable : List ℕ → Operand
  -- a quoted text
  quoted : List ℕ → Operand
  -- a word of digits
  digits : List ℕ → Operand

abbrev pub quote : ℕ
quote = 34

abbrev pub apostrophe : ℕ
apostrophe = 39

-- Between quotes of one kind, up to the next of them.
abbrev pub quoted_at : Begins (List ℕ)
quoted_at [] = None
quoted_at (b ∷ bs) = if (b == quote) || (b == apostrophe) then up_to b bs else None

abbrev pub variable_at : Begins (List ℕ)
variable_at text = if begins_with (codes "%{") text then up_to brace_close (drop 2 text) else None

abbrev pub digits_at : Begins (List ℕ)
digits_at text =
    if prefix_len is_ascii_digit text == 0 then None
    else Some (take (prefix_len is_ascii_digit text) text, drop (prefix_len is_ascii_digit text) text)

abbrev pub either : {A : Type 0} → Option A → Option A → Option A
either (Some found) other = Some found
either None other = other

abbrev pub made : {A B : Type 0} → (A → B) → Option (A × List ℕ) → Option (B × List ℕ)
made make found = option_map (λ found. (make found.0, found.1)) found

abbrev pub operand_at : Begins Operand
operand_at text =
    either (made variable (variable_at text)) (either (made quoted (quoted_at text)) (made digits (digits_at text)))

-- ---- tests

pub data Test : Type 0 where
  -- `true` and `false`
  always : Bool → Test
  -- whether it is negated: `==` or `=`, and `!=`
  same : Bool → Operand → Operand → Test
  -- `=~` and `!~`, with the pattern between slashes, and whether `i` follows
  search : Bool → Operand → List ℕ → Bool → Test
  -- `-ipmatch`
  network : Operand → List ℕ → Test

-- A pattern between slashes, and whether `i` follows.
abbrev pub with_flag : List ℕ → List ℕ → Option ((List ℕ × Bool) × List ℕ)
with_flag pattern rest = if begins_with (codes "i") rest then Some ((pattern, true), drop 1 rest)
    else Some ((pattern, false), rest)

abbrev pub pattern_at : Begins (List ℕ × Bool)
pattern_at text = if begins_with (codes "/") text then behind with_flag (up_to slash (drop 1 text)) else None

abbrev pub same_at : Bool → Operand → List ℕ → Option (Test × List ℕ)
same_at negated left text = made (λ right. same negated left right) (operand_at (past_blanks text))

abbrev pub search_at : Bool → Operand → List ℕ → Option (Test × List ℕ)
search_at negated left text = made (λ found. search negated left found.0 found.1) (pattern_at (past_blanks text))

abbrev pub network_at : Operand → List ℕ → Option (Test × List ℕ)
network_at left text = made (λ net. network left net) (quoted_at (past_blanks text))

-- By the sign between the operands. A longer sign comes before one that it begins with.
abbrev pub compared_at : Operand → List ℕ → Option (Test × List ℕ)
compared_at left text =
    if begins_with (codes "==") text then same_at false left (drop 2 text)
    else (if begins_with (codes "=~") text then search_at false left (drop 2 text)
    else (if begins_with (codes "!=") text then same_at true left (drop 2 text)
    else (if begins_with (codes "!~") text then search_at true left (drop 2 text)
    else (if begins_with (codes "=") text then same_at false left (drop 1 text)
    else (if begins_with (codes "-ipmatch") text then network_at left (drop 8 text)
    else None)))))

abbrev pub comparison_at : Begins Test
comparison_at text = behind (λ left rest. compared_at left (past_blanks rest)) (operand_at text)

-- A word of letters and digits.
abbrev pub word_of : List ℕ → List ℕ
word_of text = take (prefix_len is_ascii_alphanumeric text) text

abbrev pub word_at : Begins Test
word_at text =
    if bytes_eq (word_of text) (codes "true") then Some (always true, drop 4 text)
    else (if bytes_eq (word_of text) (codes "false") then Some (always false, drop 5 text)
    else None)

abbrev pub test_at : Begins Test
test_at text = either (word_at text) (comparison_at text)

-- ---- tokens

pub data Token : Type 0 where
  opens : Token
  closes : Token
  negates : Token
  ands : Token
  ors : Token
  test : Test → Token
  -- what begins none of these
  broken : Token

-- The token that a text begins with, and what is behind it.
abbrev pub or_broken : Option (Test × List ℕ) → Token × List ℕ
or_broken None = (broken, [])
or_broken (Some found) = (test found.0, found.1)

abbrev pub token_at : List ℕ → Token × List ℕ
token_at text =
    if begins_with (codes "(") text then (opens, drop 1 text)
    else (if begins_with (codes ")") text then (closes, drop 1 text)
    else (if begins_with (codes "!") text then (negates, drop 1 text)
    else (if begins_with (codes "&&") text then (ands, drop 2 text)
    else (if begins_with (codes "||") text then (ors, drop 2 text)
    else or_broken (test_at text)))))

-- The tokens of a text, with no more turns than it has bytes. Blanks stand between them.
abbrev pub tokens_in : ℕ → List ℕ → List Token
tokens_in turns [] = []
tokens_in zero (b ∷ bs) = []
tokens_in (suc turns) (b ∷ bs) = (token_at (b ∷ bs)).0 ∷ tokens_in turns (past_blanks (token_at (b ∷ bs)).1)

abbrev pub tokens_of : List ℕ → List Token
tokens_of text = tokens_in (length text) (past_blanks text)
