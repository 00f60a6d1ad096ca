-- Which patterns are read, and as what.
use Rattle.std.specs.Prelude.{ℕ, ◌+◌, Bool, not, ◌&&◌, ◌||◌, List, [], ◌∷◌, Option, Some, None}
use Rattle.std.specs.Prelude.{Result, Ok, Err, if◌then◌else◌, nat_lt}
use Rattle.hc_base.specs.declared.fault.AtByte.{AtByte}
use Rattle.hc_pattern.specs.Pattern.{Pattern}
use Rattle.hc_pattern.specs.Refusals.{empty_loop, most_nodes, too_large, unsupported, wrong_syntax}
use Rattle.hc_pattern.specs.Syntax.{Syntax, empty_loops, nodes, syntax_of, syntax_pattern}
use Rattle.hc_pattern.specs.Tokens.{Count, Placed, Token, item, opens, closes, bars, counts, unclosed, broken}
use Rattle.hc_pattern.specs.Tokens.{tokens_of}

-- What stands directly before a token, as a quantifier sees it: nothing, something that it may count,
-- or another quantifier, which may be lazy.
pub data Before : Type 0 where
  nothing : Before
  something : Before
  quantifier : Bool → Before

-- What is unclosed is refused at its leftmost opening. The openings are listed with the innermost first.
abbrev pub unclosed_refusal : List ℕ → Option AtByte
unclosed_refusal [] = None
unclosed_refusal (at ∷ []) = Some (wrong_syntax at)
unclosed_refusal (at ∷ more ∷ opened) = unclosed_refusal (more ∷ opened)

-- A `+` directly behind a quantifier without a lazy mark makes it possessive.
abbrev pub count_refusal : ℕ → Before → Count → Option AtByte
count_refusal at nothing count = Some (wrong_syntax at)
count_refusal at something count = None
count_refusal at (quantifier lazy) count = if count.is_plus && not lazy then Some (unsupported at)
    else Some (wrong_syntax at)

abbrev pub or_else : Option AtByte → Option AtByte → Option AtByte
or_else None later = later
or_else (Some refusal) later = Some refusal

-- A `)` closes the innermost group, if one is open.
abbrev pub close_refusal : List ℕ → ℕ → (List ℕ → Option AtByte) → Option AtByte
close_refusal [] at later = Some (wrong_syntax at)
close_refusal (opening ∷ opened) at later = later opened

-- The first refusal from a token on, by the one behind it.
abbrev pub refusal_at : List ℕ → Before → ℕ → Token → (List ℕ → Before → Option AtByte)
    → Option AtByte
refusal_at opened before at (item pattern) later = later opened something
refusal_at opened before at (opens number) later = later (at ∷ opened) nothing
refusal_at opened before at closes later = close_refusal opened at (λ opened. later opened something)
refusal_at opened before at bars later = later opened nothing
refusal_at opened before at (counts count) later =
    or_else (count_refusal at before count) (later opened (quantifier (not count.greedy)))
refusal_at opened before at unclosed later = unclosed_refusal (at ∷ opened)
refusal_at opened before at (broken refusal) later = Some refusal

-- The first refusal of form in reading from the left, where these groups are open.
abbrev pub first_refusal : List ℕ → Before → List Placed → Option AtByte
first_refusal opened before [] = unclosed_refusal opened
first_refusal opened before (placed ∷ tokens) =
    refusal_at opened before placed.at placed.token (λ opened before. first_refusal opened before tokens)

abbrev pub opens_one : Token → ℕ
opens_one (opens (Some number)) = 1
opens_one _ = 0

-- How many groups keep what they span.
abbrev pub groups_of : List Placed → ℕ
groups_of [] = 0
groups_of (placed ∷ tokens) = opens_one placed.token + groups_of tokens

-- A pattern has at most so many groups that keep what they span.
abbrev pub most_groups : ℕ
most_groups = 32

abbrev pub unless_refused : Option AtByte → Result Pattern AtByte → Result Pattern AtByte
unless_refused None pattern = pattern
unless_refused (Some refusal) pattern = Err refusal

abbrev pub unless_looping : List ℕ → Result Pattern AtByte → Result Pattern AtByte
unless_looping [] pattern = pattern
unless_looping (at ∷ more) pattern = Err (empty_loop at)

abbrev pub sized : ℕ → Syntax → Result Pattern AtByte
sized groups syntax =
    if nat_lt most_groups groups || nat_lt most_nodes (nodes syntax) then Err too_large
    else unless_looping (empty_loops syntax) (Ok (syntax_pattern syntax))

abbrev pub read_tokens : List Placed → Result Pattern AtByte
read_tokens tokens = unless_refused (first_refusal [] nothing tokens) (sized (groups_of tokens) (syntax_of tokens))

-- The pattern of a text. Without case, its letters are each of their cases.
abbrev pub parse_pattern : List ℕ → Bool → Result Pattern AtByte
parse_pattern text nocase = read_tokens (tokens_of nocase text)
