-- The grammar of expressions: `||` binds less than `&&`, and that less than `!`.
-- Apache manual, "Expressions in Apache HTTP Server".
use Rattle.std.specs.Prelude.{◌≡◌, List, [], ◌∷◌, Option, Some, None}
use Rattle.hc_expr.specs.Tokens.{Test, Token, ands, closes, negates, opens, ors, test}

pub data Tree : Type 0 where
  leaf : Test → Tree
  negated : Tree → Tree
  both : Tree → Tree → Tree
  either : Tree → Tree → Tree

-- Two `!` are none.
abbrev pub negation : Tree → Tree
negation (negated tree) = tree
negation (leaf t) = negated (leaf t)
negation (both first second) = negated (both first second)
negation (either first second) = negated (either first second)

-- What is joined by `||`, what is joined by `&&`, and what `!` may stand before.
pub data Form : Type 0 where
  disjunction : Form
  conjunction : Form
  operand : Form

-- `Reads form tokens tree rest`: tokens begin with this form, whose tree is this, and the rest stands behind it.
pub data Reads : Form → List Token → Tree → List Token → Type 0 where
  a_test : {t : Test} {rest : List Token} → Reads operand (test t ∷ rest) (leaf t) rest
  not_operand : {tokens rest : List Token} {tree : Tree}
      → Reads operand tokens tree rest → Reads operand (negates ∷ tokens) (negation tree) rest
  in_parentheses : {tokens rest : List Token} {tree : Tree}
      → Reads disjunction tokens tree (closes ∷ rest) → Reads operand (opens ∷ tokens) tree rest
  one_operand : {tokens rest : List Token} {tree : Tree} → Reads operand tokens tree rest
      → Reads conjunction tokens tree rest
  and_more : {tokens behind rest : List Token} {first more : Tree}
      → Reads operand tokens first (ands ∷ behind) → Reads conjunction behind more rest
      → Reads conjunction tokens (both first more) rest
  one_conjunction : {tokens rest : List Token} {tree : Tree}
      → Reads conjunction tokens tree rest → Reads disjunction tokens tree rest
  or_more : {tokens behind rest : List Token} {first more : Tree}
      → Reads conjunction tokens first (ors ∷ behind) → Reads disjunction behind more rest
      → Reads disjunction tokens (either first more) rest

-- The whole of the tokens.
abbrev pub IsTree : Tree → List Token → Type 0
IsTree tree tokens = Reads disjunction tokens tree []

-- Tokens have this tree alone, or none.
abbrev pub IsOnlyTree : Option Tree → List Token → Type 0
IsOnlyTree (Some tree) tokens = IsTree tree tokens × ((other : Tree) → IsTree other tokens → other ≡ tree)
IsOnlyTree None tokens = (other : Tree) → IsTree other tokens → ⊥
