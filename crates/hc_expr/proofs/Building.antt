-- How the steps are made from the last token on.
use Rattle.hc_expr.proofs.Common.{◌≡◌, List, [], ◌∷◌, ◌++◌, refl, ap, Token}
use Rattle.hc_expr.specs.Emitted.{Output, nothing_emitted, output_after, with_emitted}

-- What tokens make, with what follows them.
abbrev pub output_with : List Token → Output → Output
output_with [] output = output
output_with (token ∷ tokens) output = with_emitted token (output_with tokens output)

pub last_token : (tokens : List Token) (last : Token) (output : Output) → output_with (tokens ++ last ∷ []) output
    ≡ output_with tokens (with_emitted last output)
last_token [] last output = refl
last_token (first ∷ tokens) last output = ap (with_emitted first) (last_token tokens last output)

pub all_tokens : (tokens : List Token) → output_with tokens nothing_emitted ≡ output_after tokens
all_tokens [] = refl
all_tokens (token ∷ tokens) = ap (with_emitted token) (all_tokens tokens)
