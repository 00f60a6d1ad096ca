-- Events that are told one after another.
use Rattle.hc_serve.proofs.Common.{◌≡◌, List, Ok, refl, ap, Logged, Ran, with_events}
use Rattle.std.proofs.Common.{[], ◌∷◌}
use Rattle.hc_model.specs.declared.event.Event.{Event}
use Rattle.hc_serve.specs.Passing.{told_each}
use Rattle.hc_steps.specs.Run.{goes_on, run, saying}
use Rattle.hc_steps.specs.Step.{Shown}

run_told : {A : Type 0} (events : List Event) (left : A) (w : Shown) → run (told_each events left) w
    ≡ record { events = events; reads = []; way = goes_on left }
unfolding run
run_told [] left w = refl
run_told (event ∷ events) left w = ap (saying event) (run_told events left w)

pub each_told : {A : Type 0} (old new : Logged) (events : List Event) (left : A) (w : Shown)
    → new ≡ with_events old events → Ran (Ok left) old new (run (told_each events left) w)
unfolding Ran
each_told old new events left w is = rw (run_told events left w) (refl, is)
