-- The first refusal of form.
use Rattle.hc_pattern.proofs.Common.{◌≡◌, ℕ, Some, List, [], ◌∷◌, ◌++◌, refl, ap, ◌∙◌, reverse}
use Rattle.hc_pattern.proofs.Common.{reverse-append, unclosed_refusal}
use Rattle.hc_pattern.specs.Refusals.{wrong_syntax}

unclosed_last : (opened : List ℕ) (first : ℕ) → unclosed_refusal (opened ++ first ∷ [])
    ≡ Some (wrong_syntax first)
unclosed_last [] first = refl
unclosed_last (at ∷ []) first = refl
unclosed_last (at ∷ more ∷ opened) first = unclosed_last (more ∷ opened) first

-- The leftmost opening is the first.
pub unclosed_first : (first : ℕ) (more : List ℕ) → unclosed_refusal (reverse (first ∷ more))
    ≡ Some (wrong_syntax first)
unclosed_first first more = ap unclosed_refusal (reverse-append (first ∷ []) more)
    ∙ unclosed_last (reverse more) first

pub unclosed_before : (at first : ℕ) (more : List ℕ) → unclosed_refusal (at ∷ reverse (first ∷ more))
    ≡ Some (wrong_syntax first)
unclosed_before at first more = ap (λ l. unclosed_refusal (at ∷ l)) (reverse-append (first ∷ []) more)
    ∙ unclosed_last (at ∷ reverse more) first
