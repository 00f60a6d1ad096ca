-- Which tokens are an expression.
use Rattle.hc_expr.proofs.Common.{◌≡◌, ℕ, zero, suc, ◌-◌, ◌==◌, true, false, List, [], ◌∷◌, refl}
use Rattle.hc_expr.proofs.Common.{true≢false, arith, eqb-true, false_from_ne_true, Token, closes}
use Rattle.hc_expr.specs.Syntax.{is_expression}

pub none_open : (depth : ℕ) (later : List Token) → (depth == 0) ≡ true
    → is_expression depth false (closes ∷ later) ≡ false
none_open zero later none = refl
none_open (suc depth) later none = absurd (omega (arith, eqb-true (suc depth) 0 none))

pub one_closed : (depth : ℕ) (later : List Token) → (depth == 0) ≡ false
    → is_expression depth false (closes ∷ later) ≡ is_expression (depth - 1) false later
one_closed zero later some = absurd (true≢false some)
one_closed (suc depth) later some = let e : suc depth - 1 ≡ depth = omega arith in rw e refl

pub ends : (depth : ℕ) → (depth == 0) ≡ is_expression depth false []
ends zero = refl
ends (suc depth) = false_from_ne_true (suc depth == 0) (λ none. absurd (omega (arith, eqb-true (suc depth) 0 none)))
