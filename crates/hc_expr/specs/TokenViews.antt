-- What the tokens of `src/` are seen as.
use Rattle.std.specs.Prelude.{ℕ, List, Bool}
use Rattle.std.specs.Borrow.{Bor}
use Rattle.hc_expr.specs.Tokens.{Operand, Test, Token, always, ands, broken, closes, digits, negates, network, opens}
use Rattle.hc_expr.specs.Tokens.{ors, quoted, same, search, test, variable}
use Rattle.hc_expr.specs.declared.operand.Operand.{Operand as OperandOfBytes}
use Rattle.hc_expr.specs.declared.operand.Operand.TheVariants.{Variable, Quoted, Digits}
use Rattle.hc_expr.specs.declared.test.Pattern.{Pattern}
use Rattle.hc_expr.specs.declared.test.Test.{Test as TestOfBytes}
use Rattle.hc_expr.specs.declared.test.Test.TheVariants.{Always, Same, Search, Network}
use Rattle.hc_expr.specs.declared.token.Token.{Token as TokenOfBytes}
use Rattle.hc_expr.specs.declared.token.Token.TheVariants as signs

abbrev pub cut_view : Bor (List ℕ) × Bor (List ℕ) → List ℕ × List ℕ
cut_view found = (found.0.now, found.1.now)

abbrev pub operand_view : OperandOfBytes → Operand
operand_view (Variable name) = variable name.now
operand_view (Quoted text) = quoted text.now
operand_view (Digits text) = digits text.now

abbrev pub operand_found : OperandOfBytes × Bor (List ℕ) → Operand × List ℕ
operand_found found = (operand_view found.0, found.1.now)

abbrev pub pattern_view : Pattern → List ℕ × Bool
pattern_view pattern = (pattern.text.now, pattern.nocase)

abbrev pub pattern_found : Pattern × Bor (List ℕ) → (List ℕ × Bool) × List ℕ
pattern_found found = (pattern_view found.0, found.1.now)

abbrev pub test_view : TestOfBytes → Test
test_view (Always value) = always value
test_view (Same negated left right) = same negated (operand_view left) (operand_view right)
test_view (Search negated left pattern) = search negated (operand_view left) pattern.text.now pattern.nocase
test_view (Network left network_text) = network (operand_view left) network_text.now

abbrev pub test_found : TestOfBytes × Bor (List ℕ) → Test × List ℕ
test_found found = (test_view found.0, found.1.now)

abbrev pub token_view : TokenOfBytes → Token
token_view signs.Opens = opens
token_view signs.Closes = closes
token_view signs.Negates = negates
token_view signs.Ands = ands
token_view signs.Ors = ors
token_view (signs.Test t) = test (test_view t)
token_view signs.Broken = broken

abbrev pub token_found : TokenOfBytes × Bor (List ℕ) → Token × List ℕ
token_found found = (token_view found.0, found.1.now)
