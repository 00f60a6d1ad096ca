-- Which tokens are an expression, as the code reads them: from the first one on.
use Rattle.std.specs.Prelude.{ℕ, zero, suc, ◌+◌, List, [], ◌∷◌, Bool, true, false}
use Rattle.hc_expr.specs.Tokens.{Token, ands, closes, negates, opens, ors, test}

-- So many parentheses are open; `!`, `(` or a test is awaited, or else `&&`, `||`, `)` or the end.
abbrev pub is_expression : ℕ → Bool → List Token → Bool
is_expression depth true (opens ∷ tokens) = is_expression (depth + 1) true tokens
is_expression depth true (negates ∷ tokens) = is_expression depth true tokens
is_expression depth true (test t ∷ tokens) = is_expression depth false tokens
is_expression depth false (ands ∷ tokens) = is_expression depth true tokens
is_expression depth false (ors ∷ tokens) = is_expression depth true tokens
is_expression (suc depth) false (closes ∷ tokens) = is_expression depth false tokens
is_expression zero false [] = true
is_expression depth awaited tokens = false
