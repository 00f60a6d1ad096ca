-- What steps come to in a world.
use Rattle.std.specs.Prelude.{List, [], ◌∷◌, ◌++◌}
use Rattle.hc_model.specs.declared.event.Event.{Event}
use Rattle.hc_model.specs.declared.read.Read.{Read}
use Rattle.hc_steps.specs.Step.{Shown, Step, leaves, ends, say, look}

pub data Way (E A : Type 0) : Type 0 where
  goes_on : A → Way E A
  is_over : E → Way E A

-- The events and the reads as they came, and where the way leads.
pub record Run (E A : Type 0) : Type 0 where
  pub events : List Event
  pub reads : List Read
  pub way : Way E A

abbrev pub saying : {E A : Type 0} → Event → Run E A → Run E A
saying event run = record run { events = event ∷ run.events }

abbrev pub looking : {E A : Type 0} → Read → Run E A → Run E A
looking read run = record run { reads = read ∷ run.reads }

unfoldable pub run : {E A : Type 0} → Step E A → Shown → Run E A
run (leaves left) shown = record { events = []; reads = []; way = goes_on left }
run (ends end) shown = record { events = []; reads = []; way = is_over end }
run (say event rest) shown = saying event (run rest shown)
run (look read rest) shown = looking read (run (rest (shown read)) shown)

-- A run, and the run of what follows it.
abbrev pub behind : {E A B : Type 0} → Run E A → Run E B → Run E B
behind first next =
    record { events = first.events ++ next.events; reads = first.reads ++ next.reads; way = next.way }

abbrev pub on_way : {E A B : Type 0} → Run E A → Way E A → (A → Run E B) → Run E B
on_way first (goes_on left) next = behind first (next left)
on_way first (is_over end) next = record { events = first.events; reads = first.reads; way = is_over end }

abbrev pub run_then : {E A B : Type 0} → Run E A → (A → Run E B) → Run E B
run_then first next = on_way first first.way next
