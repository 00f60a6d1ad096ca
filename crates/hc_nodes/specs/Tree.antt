-- The section trees of configuration lines.
-- Apache manual, "Configuration Sections": `<Name arguments>` opens a section and `</Name>` closes
-- it; sections nest. The forms of a close and of an opening, the most sections, and the order of
-- refusals are our own choice.
use Rattle.std.specs.Prelude.{◌≡◌, ℕ, ◌-◌, ◌==◌, ◌<◌, List, [], ◌∷◌, ◌++◌, length, map}
use Rattle.std.specs.Prelude.{take, drop, Bool, true, false, not, ◌&&◌, ◌||◌, if◌then◌else◌, nat_le}
use Rattle.std.specs.Prelude.{nat_lt, Option, Some, None, Result, Ok, Err, take_while}
use Rattle.std.specs.Char.{to_ascii_lowercase}
use Rattle.std.specs.Str.{bytes_eq}
use Rattle.hc_base.specs.Bytes.{begins_with, ends_with, greater, less, slash}
use Rattle.hc_base.specs.Lines.{is_blank}
use Rattle.hc_base.specs.declared.codes.TheConstants.{NESTED_TOO_DEEP, UNCLOSED_SECTION, UNMATCHED_CLOSE}
use Rattle.hc_base.specs.declared.fault.AtLine.{AtLine}
use Rattle.hc_lines.specs.declared.line.Line.{Line}

-- ---- lines

-- The first bytes of a text up to a blank, and what follows them.
abbrev pub name_of : List ℕ → List ℕ
name_of text = take_while (λ b. not (is_blank b)) text

abbrev pub behind_name : List ℕ → List ℕ
behind_name text = drop (length (name_of text)) text

-- A line that begins with `</` closes a section; another that begins with `<` opens one, and does
-- so only where it ends with `>`; any other is a directive.
abbrev pub is_close : Line → Bool
is_close line = begins_with less line.text && begins_with slash (drop 1 line.text)

abbrev pub is_opening : Line → Bool
is_opening line = begins_with less line.text && not (is_close line)

abbrev pub is_complete : Line → Bool
is_complete line = is_opening line && ends_with greater line.text

-- What stands between `<` and the last `>` of an opening.
abbrev pub inside_brackets : Line → List ℕ
inside_brackets line = take (length line.text - 2) (drop 1 line.text)

-- The close of a section of this name, without case: `</`, the name and `>`.
abbrev pub close_of : List ℕ → List ℕ
close_of name = less ∷ slash ∷ name ++ greater ∷ []

abbrev pub same_name : List ℕ → List ℕ → Bool
same_name a b = bytes_eq (map to_ascii_lowercase a) (map to_ascii_lowercase b)

abbrev pub closes : Line → Line → Bool
closes opening line = same_name line.text (close_of (name_of (inside_brackets opening)))

-- ---- trees

-- Nodes one behind another: a directive with its line, its name and what follows the name, or a
-- section with its opening's line, its name, its arguments and its body.
pub data Nodes : Type 0 where
  none : Nodes
  directive : Line → List ℕ → List ℕ → Nodes → Nodes
  block : Line → List ℕ → List ℕ → Nodes → Nodes → Nodes

abbrev pub directive_at : Line → Nodes → Nodes
directive_at line next = directive line (name_of line.text) (behind_name line.text) next

abbrev pub block_at : Line → Nodes → Nodes → Nodes
block_at line body next = block line (name_of (inside_brackets line)) (behind_name (inside_brackets line)) body next

-- The most sections that are open at a place.
abbrev pub most_open : ℕ
most_open = 64

-- The grammar, with room for so many sections within each other: nothing; a directive and then
-- nodes; an opening, nodes, its close, and then nodes.
abbrev pub Reads : ℕ → Nodes → List Line → Type 0
Reads room none lines = lines ≡ []
Reads room (directive line name rest next) lines =
    (more : List Line) × (lines ≡ line ∷ more) × (begins_with less line.text ≡ false)
    × (name ≡ name_of line.text) × (rest ≡ behind_name line.text) × Reads room next more
Reads room (block line name args body next) lines =
    (inside : List Line) × (close : Line) × (more : List Line) × (lines ≡ line ∷ inside ++ close ∷ more)
    × (0 < room)
    × (is_complete line ≡ true) × (closes line close ≡ true)
    × (name ≡ name_of (inside_brackets line)) × (args ≡ behind_name (inside_brackets line))
    × Reads (room - 1) body inside × Reads room next more

-- ---- refusals

abbrev pub closes_innermost : List Line → Line → Bool
closes_innermost [] line = false
closes_innermost (opening ∷ open_lines) line = closes opening line

-- The openings that are open behind a line, the innermost first, by those that were open before
-- it. A close that is not the innermost opening's closes nothing, and an opening without `>` opens
-- nothing.
abbrev pub open_behind : List Line → Line → List Line
open_behind open_lines line =
    if is_close line then (if closes_innermost open_lines line then drop 1 open_lines else open_lines)
    else (if is_complete line then line ∷ open_lines else open_lines)

-- The rule that a line breaks behind these openings.
abbrev pub rule_broken : List Line → Line → Option ℕ
rule_broken open_lines line =
    if is_close line then (if closes_innermost open_lines line then None else Some UNMATCHED_CLOSE)
    else (if is_opening line && not (is_complete line) then Some UNCLOSED_SECTION
    else (if is_opening line && nat_le most_open (length open_lines) then Some NESTED_TOO_DEEP else None))

abbrev pub refused_at : Line → ℕ → AtLine
refused_at line code = record { code = code; line = line.number }

abbrev pub with_broken : Line → Option ℕ → List AtLine → List AtLine
with_broken line None refusals = refusals
with_broken line (Some code) refusals = refused_at line code ∷ refusals

-- Each rule that lines break behind these openings. An opening that is open at the end is unclosed.
abbrev pub refusals : List Line → List Line → List AtLine
refusals open_lines [] = map (λ opening. refused_at opening UNCLOSED_SECTION) open_lines
refusals open_lines (line ∷ lines) =
    with_broken line (rule_broken open_lines line) (refusals (open_behind open_lines line) lines)

-- The smaller line comes first, and on one line the smaller code.
abbrev pub comes_first : AtLine → AtLine → Bool
comes_first a b = nat_lt a.line b.line || ((a.line == b.line) && nat_le a.code b.code)

abbrev pub or_earlier : AtLine → Option AtLine → Option AtLine
or_earlier a None = Some a
or_earlier a (Some b) = if comes_first a b then Some a else Some b

abbrev pub first_of_all : List AtLine → Option AtLine
first_of_all [] = None
first_of_all (a ∷ rest) = or_earlier a (first_of_all rest)

abbrev pub refusal_of : List Line → Option AtLine
refusal_of lines = first_of_all (refusals [] lines)

-- ---- the tree of lines

-- Read from the last line to the first: the nodes of each section that is open before a line, the
-- innermost first. A close begins the nodes of a section, and its opening ends them.
abbrev pub next_of : List Nodes → Nodes
next_of [] = none
next_of (nodes ∷ outer) = nodes

abbrev pub with_line : Line → List Nodes → List Nodes
with_line line levels =
    if is_close line then none ∷ levels
    else (if is_opening line then block_at line (next_of levels) (next_of (drop 1 levels)) ∷ drop 2 levels
    else directive_at line (next_of levels) ∷ drop 1 levels)

abbrev pub levels_of : List Line → List Nodes
levels_of [] = none ∷ []
levels_of (line ∷ lines) = with_line line (levels_of lines)

abbrev pub unless_refused : Option AtLine → Nodes → Result Nodes AtLine
unless_refused None nodes = Ok nodes
unless_refused (Some refusal) nodes = Err refusal

-- The tree of lines, or the first rule that they break.
unfoldable pub nodes_of : List Line → Result Nodes AtLine
nodes_of lines = unless_refused (refusal_of lines) (next_of (levels_of lines))

-- Lines have a tree exactly where they break no rule, and then this one alone.
abbrev pub IsOnlyTree : Result Nodes AtLine → List Line → Type 0
IsOnlyTree (Ok nodes) lines = Reads most_open nodes lines
    × ((other : Nodes) → Reads most_open other lines → other ≡ nodes)
IsOnlyTree (Err refusal) lines = (other : Nodes) → Reads most_open other lines → ⊥
