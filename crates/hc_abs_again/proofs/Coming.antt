-- What holds of all that steps go on with in a world.
use Rattle.hc_abs_again.proofs.Common.{◌≡◌, ◌∙◌, refl, sym, ap, Run, Way, goes_on, is_over, on_way, run}
use Rattle.hc_abs_again.proofs.Common.{Shown, Step, ◌>>=◌, ending}
use Rattle.hc_include.proofs.Ending.{end_way, run_ending}
use Rattle.hc_steps.proofs.Running.{in_turn}
use Rattle.hc_abs_segments.proofs.Once.{Gives, gives_run}

abbrev pub Comes : {E A : Type 0} → Shown → (A → Type 0) → Step E A → Type 0
Comes {E} {A} shown P step = (left : A) → (run step shown).way ≡ goes_on left → P left

pub comes_so : {E A : Type 0} (shown : Shown) (P : A → Type 0) (step : Step E A) → Gives P step → Comes shown P step
comes_so shown P step gives left is = gives_run P step gives shown left is

-- By what the first step goes on with.
pub comes_then : {E A B : Type 0} (shown : Shown) (P : B → Type 0) (step : Step E A) (next : A → Step E B)
    → ((left : A) → (run step shown).way ≡ goes_on left → Comes shown P (next left)) → Comes shown P (step >>= next)
comes_then {E} {A} {B} shown P step next each left is =
    by (run step shown).way refl (ap (λ (whole : Run E B). whole.way) (sym (in_turn step next shown)) ∙ is)
  where
    by : (way : Way E A) → (run step shown).way ≡ way
        → (on_way (run step shown) way (λ value. run (next value) shown)).way ≡ goes_on left → P left
    by (goes_on value) first same = each value first left same
    by (is_over end) first same = absurd (let none = same in cc)

-- So it is with another kind of end.
pub comes_ending : {E F A B : Type 0} (shown : Shown) (P : B → Type 0) (end : E → F) (step : Step E A)
    (next : A → Step F B)
    → ((left : A) → (run step shown).way ≡ goes_on left → Comes shown P (next left))
    → Comes shown P (ending end step >>= next)
comes_ending {E} {F} {A} shown P end step next each =
    comes_then shown P (ending end step) next (λ left is.
    each left (by left (run step shown).way
    (ap (λ (whole : Run F A). whole.way) (sym (run_ending end step shown)) ∙ is)))
  where
    by : (left : A) (way : Way E A) → end_way end way ≡ goes_on left → way ≡ goes_on left
    by left (goes_on value) same = cc same
    by left (is_over own) same = absurd (cc same)
