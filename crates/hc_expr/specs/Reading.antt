-- What an expression is read as, or the first rule that it breaks.
-- Apache manual, "Expressions in Apache HTTP Server". The refusals are our own choice: where the text is no
-- expression, nothing else is looked for; else the smallest code counts, and of equal ones the first.
use Rattle.std.specs.Prelude.{ℕ, List, [], ◌∷◌, Bool, true, false, Option, Some, None, Result, Ok, Err, nat_lt}
use Rattle.std.specs.Prelude.{if◌then◌else◌}
use Rattle.hc_addr.specs.Networks.{net_of}
use Rattle.hc_addr.specs.declared.net.Net.{Net}
use Rattle.hc_base.specs.Rules.{rule}
use Rattle.hc_base.specs.declared.codes.TheConstants.{BAD_ADDRESS, BAD_EXPRESSION, UNSUPPORTED_VARIABLE}
use Rattle.hc_base.specs.declared.fault.AtByte.{AtByte}
use Rattle.hc_model.specs.declared.expression.Expr.{Expr}
use Rattle.hc_model.specs.declared.expression.Expr.TheVariants as expr
use Rattle.hc_model.specs.declared.template.Piece.{Piece}
use Rattle.hc_model.specs.declared.template.Piece.TheVariants.{Bytes, Var}
use Rattle.hc_pattern.specs.Reading.{parse_pattern}
use Rattle.hc_template.specs.Reading.{template}
use Rattle.hc_template.specs.Variables.{variable_named}
use Rattle.hc_template.specs.declared.signs.Names.TheVariants.{Expression}
use Rattle.hc_template.specs.declared.signs.Signs.{Signs}
use Rattle.hc_expr.specs.Emitted.{tree_of}
use Rattle.hc_expr.specs.Grammar.{Tree, both, either, leaf, negated}
use Rattle.hc_expr.specs.Tokens.{Operand, Test, always, digits, network, quoted, same, search, tokens_of, variable}

-- ---- operands

-- A quoted text may hold `%{NAME}`, and no other sign.
abbrev pub names_alone : Signs
names_alone = record { groups = false; conditions = false; names = Expression; lookups = false; escapes = false }

abbrev pub name_alone : List ℕ → Result (List Piece) AtByte
name_alone name =
    elim (variable_named name) [ None ↦ Err (rule UNSUPPORTED_VARIABLE) | Some var ↦ Ok (Var var ∷ []) ]

abbrev pub operand_of : Operand → Result (List Piece) AtByte
operand_of (variable name) = name_alone name
operand_of (quoted text) = template names_alone text
operand_of (digits text) = Ok (Bytes text ∷ [])

abbrev pub network_of : List ℕ → Result Net AtByte
network_of text = elim (net_of text) [ Err bad ↦ Err (rule BAD_ADDRESS) | Ok net ↦ Ok net ]

-- ---- trees

-- The smaller code, and of equal ones the first.
abbrev pub lesser : AtByte → AtByte → AtByte
lesser first second = if nat_lt second.code first.code then second else first

abbrev pub made_of_two : {A B C : Type 0} → (A → B → C) → Result A AtByte → Result B AtByte
    → Result C AtByte
made_of_two make (Ok a) (Ok b) = Ok (make a b)
made_of_two make (Ok a) (Err broken) = Err broken
made_of_two make (Err broken) (Ok b) = Err broken
made_of_two make (Err first) (Err second) = Err (lesser first second)

abbrev pub made_of_one : {A C : Type 0} → (A → C) → Result A AtByte → Result C AtByte
made_of_one make (Ok a) = Ok (make a)
made_of_one make (Err broken) = Err broken

abbrev pub negated_where : Bool → Result Expr AtByte → Result Expr AtByte
negated_where false read = read
negated_where true read = made_of_one expr.Not read

abbrev pub constant : Bool → Expr
constant true = expr.Yes
constant false = expr.No

abbrev pub test_read : Test → Result Expr AtByte
test_read (always value) = Ok (constant value)
test_read (same differs left right) = negated_where differs (made_of_two expr.Same (operand_of left) (operand_of right))
test_read (search differs left pattern nocase) =
    negated_where differs (made_of_two expr.Search (operand_of left) (parse_pattern pattern nocase))
test_read (network left text) = made_of_two expr.IpMatch (operand_of left) (network_of text)

abbrev pub tree_read : Tree → Result Expr AtByte
tree_read (leaf t) = test_read t
tree_read (negated tree) = made_of_one expr.Not (tree_read tree)
tree_read (both first second) = made_of_two expr.And (tree_read first) (tree_read second)
tree_read (either first second) = made_of_two expr.Or (tree_read first) (tree_read second)

-- ---- the whole

abbrev pub no_expression : AtByte
no_expression = rule BAD_EXPRESSION

abbrev pub expression_of : Option Tree → Result Expr AtByte
expression_of None = Err no_expression
expression_of (Some tree) = tree_read tree

unfoldable pub parse_expr : List ℕ → Result Expr AtByte
parse_expr text = expression_of (tree_of (tokens_of text))
