-- The tree of a pattern's tokens (PCRE, "pcrepattern").
use Rattle.std.specs.Prelude.{ℕ, ◌+◌, ◌*◌, ◌==◌, Bool, true, false, ◌&&◌, ◌||◌, List, []}
use Rattle.std.specs.Prelude.{◌∷◌, ◌++◌, max, Option, Some, None, if◌then◌else◌, nat_lt}
use Rattle.hc_pattern.specs.Pattern.{Pattern, empty, start, finish, cat, alt, group, repeat}
use Rattle.hc_pattern.specs.Tokens.{Count, Placed, Token, item, opens, closes, bars, counts, unclosed, broken}

pub data Syntax : Type 0 where
  nothing : Syntax
  leaf : Pattern → Syntax
  both : Syntax → Syntax → Syntax
  either : Syntax → Syntax → Syntax
  grouped : Option ℕ → Syntax → Syntax
  -- a quantifier at its place
  turns : ℕ → Count → Syntax → Syntax

-- ---- from tokens, the last one first

-- What is read of the inside of a group, from its end: the alternative that is being read, the ones
-- behind it, and a quantifier whose body is still to come.
pub record Level : Type 0 where
  pub sequence : Syntax
  pub others : Option Syntax
  pub count : Option (ℕ × Count)

abbrev pub new_level : Level
new_level = record { sequence = nothing; others = None; count = None }

abbrev pub whole : Level → Syntax
whole level = elim level.others [ None ↦ level.sequence | Some others ↦ either level.sequence others ]

abbrev pub before : Syntax → Syntax → Syntax
before one nothing = one
before one more = both one more

abbrev pub counted : Option (ℕ × Count) → Syntax → Syntax
counted None body = body
counted (Some count) body = turns count.0 count.1 body

abbrev pub with_body : Syntax → Level → Level
with_body body level =
    record { sequence = before (counted level.count body) level.sequence; others = level.others; count = None }

-- A level, and those around it, the innermost first.
abbrev pub Levels : Type 0
Levels = Level × List Level

abbrev pub outer : List Level → Levels
outer [] = (new_level, [])
outer (level ∷ levels) = (level, levels)

abbrev pub with_token : ℕ → Token → Levels → Levels
with_token at (item pattern) levels = (with_body (leaf pattern) levels.0, levels.1)
with_token at (opens number) levels =
    (with_body (grouped number (whole levels.0)) (outer levels.1).0, (outer levels.1).1)
with_token at closes levels = (new_level, levels.0 ∷ levels.1)
with_token at bars levels = (record { sequence = nothing; others = Some (whole levels.0); count = None }, levels.1)
with_token at (counts count) levels = (record levels.0 { count = Some (at, count) }, levels.1)
with_token at unclosed levels = levels
with_token at (broken refusal) levels = levels

abbrev pub levels_of : List Placed → Levels
levels_of [] = (new_level, [])
levels_of (placed ∷ tokens) = with_token placed.at placed.token (levels_of tokens)

abbrev pub syntax_of : List Placed → Syntax
syntax_of tokens = whole (levels_of tokens).0

-- ---- what it is and how large

abbrev pub syntax_pattern : Syntax → Pattern
syntax_pattern nothing = empty
syntax_pattern (leaf pattern) = pattern
syntax_pattern (both first second) = cat (syntax_pattern first) (syntax_pattern second)
syntax_pattern (either first second) = alt (syntax_pattern first) (syntax_pattern second)
syntax_pattern (grouped None body) = syntax_pattern body
syntax_pattern (grouped (Some number) body) = group number (syntax_pattern body)
syntax_pattern (turns at count body) = repeat (syntax_pattern body) count.least count.most count.greedy

abbrev pub times_of : ℕ → Option ℕ → ℕ
times_of least None = max 1 least
times_of least (Some most) = max 1 most

-- How often a count writes its body out: its greater number, at least once.
abbrev pub times : Count → ℕ
times count = times_of count.least count.most

-- The nodes: bytes, escapes, classes, `.`, `^`, `$`, groups, `|`, `*`, `+` and `?`, where a count in
-- braces has its body's nodes so many times.
abbrev pub nodes : Syntax → ℕ
nodes nothing = 0
nodes (leaf pattern) = 1
nodes (both first second) = nodes first + nodes second
nodes (either first second) = 1 + nodes first + nodes second
nodes (grouped number body) = 1 + nodes body
nodes (turns at count body) = if count.is_sign then 1 + nodes body else times count * nodes body

-- ---- turns that take no byte

abbrev pub is_place : Pattern → Bool
is_place start = true
is_place finish = true
is_place _ = false

-- It can match the empty text.
abbrev pub can_be_empty : Syntax → Bool
can_be_empty nothing = true
can_be_empty (leaf pattern) = is_place pattern
can_be_empty (both first second) = can_be_empty first && can_be_empty second
can_be_empty (either first second) = can_be_empty first || can_be_empty second
can_be_empty (grouped number body) = can_be_empty body
can_be_empty (turns at count body) = (count.least == 0) || can_be_empty body

-- More than one turn may be.
abbrev pub is_many : Option ℕ → Bool
is_many None = true
is_many (Some most) = nat_lt 1 most

abbrev pub is_loop : Count → Bool
is_loop count = is_many count.most

-- The places of the quantifiers whose turns may be many and empty, in their order.
abbrev pub empty_loops : Syntax → List ℕ
empty_loops nothing = []
empty_loops (leaf pattern) = []
empty_loops (both first second) = empty_loops first ++ empty_loops second
empty_loops (either first second) = empty_loops first ++ empty_loops second
empty_loops (grouped number body) = empty_loops body
empty_loops (turns at count body) = empty_loops body ++ (if is_loop count && can_be_empty body then at ∷ [] else [])
