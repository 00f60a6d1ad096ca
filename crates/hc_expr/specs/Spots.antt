-- Where the reading of tokens stands.
use Rattle.std.specs.Prelude.{◌≡◌, ℕ, List, ◌∷◌, Bool, false, Option, Some, None}
use Rattle.hc_expr.specs.Syntax.{is_expression}
use Rattle.hc_expr.specs.Tokens.{Token}
use Rattle.hc_expr.specs.declared.syntax.Spot.{Spot}

-- Behind a token the reading goes on at this spot, or the tokens are no expression, whatever follows.
abbrev pub GoesOn : Option Spot → ℕ → Bool → Token → Type 0
GoesOn None depth awaited token = (later : List Token) → is_expression depth awaited (token ∷ later) ≡ false
GoesOn (Some spot) depth awaited token =
    (later : List Token) → is_expression depth awaited (token ∷ later) ≡ is_expression spot.depth spot.awaited
    later
