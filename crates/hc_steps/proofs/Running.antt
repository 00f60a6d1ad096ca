-- Runs of steps, one after another.
use Rattle.hc_steps.proofs.Common.{◌≡◌, suc, refl, ap, ◌∙◌, arith, Run, run, run_then, on_way, Way, goes_on}
use Rattle.hc_steps.proofs.Common.{is_over, saying, looking, Event, Read}
use Rattle.hc_steps.specs.Step.{Shown, Step, leaves, ends, say, look, ◌>>=◌}
use Rattle.hc_steps.specs.Laws.{AgreeOn}

pub agreement : {E A : Type 0} (s : Step E A) (v w : Shown) → AgreeOn v w (run s v).reads → run s v ≡ run s w
unfolding run
agreement (leaves a) v w h = refl
agreement (ends e) v w h = refl
agreement (say event s) v w h = ap (saying event) (agreement s v w h)
agreement (look read s) v w h =
    ap (looking read) (agreement (s (v read)) v w (λ other i. h other (suc i.0, omega (arith, i.1), i.2))
    ∙ ap (λ x. run (s x) w) (h read (0, omega arith, refl)))

saying_on : {E A B : Type 0} (event : Event) (r : Run E A) (way : Way E A) (f : A → Run E B)
    → saying event (on_way r way f) ≡ on_way (saying event r) way f
saying_on event r (goes_on a) f = refl
saying_on event r (is_over e) f = refl

looking_on : {E A B : Type 0} (read : Read) (r : Run E A) (way : Way E A) (f : A → Run E B)
    → looking read (on_way r way f) ≡ on_way (looking read r) way f
looking_on read r (goes_on a) f = refl
looking_on read r (is_over e) f = refl

pub in_turn : {E A B : Type 0} (s : Step E A) (f : A → Step E B) (w : Shown)
    → run (s >>= f) w ≡ run_then (run s w) (λ a. run (f a) w)
unfolding run ◌>>=◌
in_turn (leaves a) f w = refl
in_turn (ends e) f w = refl
in_turn (say event s) f w = ap (saying event) (in_turn s f w) ∙ saying_on event (run s w) (run s w).way
    (λ a. run (f a) w)
in_turn (look read s) f w = ap (looking read) (in_turn (s (w read)) f w)
    ∙ looking_on read (run (s (w read)) w) (run (s (w read)) w).way (λ a. run (f a) w)
