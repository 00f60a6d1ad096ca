-- Where segments lead, one after another.
use Rattle.hc_target.proofs.Common.{◌≡◌, ℕ, ◌+◌, ◌<◌, ◌≤◌, List, ◌∷◌, length, get_or, drop}
use Rattle.hc_target.proofs.Common.{Some, sym, ap, ◌∙◌, drop_all, drop_more, Reached, step, led_by}

pub led_step : (at : Reached) (segments : List (List ℕ)) (k : ℕ) (segment : List ℕ)
    → (k < length segments) × (segment ≡ get_or segments k segment)
    → led_by (Some at) (drop k segments) ≡ led_by (step at segment) (drop (k + 1) segments)
led_step at segments k segment h =
    ap (led_by (Some at)) (drop_more segments k segment h.0 ∙ ap (λ s. s ∷ drop (k + 1) segments) (sym h.1))

pub led_end : (at : Reached) (segments : List (List ℕ)) (k : ℕ) → length segments ≤ k
    → led_by (Some at) (drop k segments) ≡ Some at
led_end at segments k h = ap (led_by (Some at)) (drop_all k segments h)
