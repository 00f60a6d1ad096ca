-- What holds of all steps.
use Rattle.std.specs.Prelude.{◌≡◌, ℕ, List, [], length, Contains, Option}
use Rattle.hc_model.specs.declared.event.Event.{Event}
use Rattle.hc_model.specs.declared.read.Read.{Read}
use Rattle.hc_steps.specs.Ran.{Logged, first_of, grown}
use Rattle.hc_steps.specs.Order.{each_once}
use Rattle.hc_steps.specs.Run.{Run, run, run_then}
use Rattle.hc_steps.specs.Step.{Shown, Step, ◌>>=◌}

-- The worlds show the same at each of these.
abbrev pub AgreeOn : Shown → Shown → List Read → Type 0
AgreeOn one other reads = (read : Read) → Contains reads read → one read ≡ other read

-- Worlds that agree on what the first shows are answered alike.
abbrev pub Agreement : Type 0 → Type 0 → Type 0
Agreement E A =
    (step : Step E A) (one other : Shown) → AgreeOn one other (run step one).reads → run step one ≡ run step other

abbrev pub RunsInTurn : Type 0 → Type 0 → Type 0 → Type 0
RunsInTurn E A B =
    (step : Step E A) (next : A → Step E B) (shown : Shown)
    → run (step >>= next) shown ≡ run_then (run step shown) (λ left. run (next left) shown)

abbrev pub empty_log : Option ℕ → Logged
empty_log cap = record { cap = cap; kept = []; count = 0; reads = [] }

-- A log that was empty has the first events of a run, the number of all, and each read once.
pub record Keeps (cap : Option ℕ) (log : Logged) (events : List Event) (told : List Read) : Type 0 where
  pub kept : log.kept ≡ first_of cap events
  pub count : log.count ≡ length events
  pub reads : log.reads ≡ each_once told

abbrev pub RunIsKept : Type 0 → Type 0 → Type 0
RunIsKept E A = (cap : Option ℕ) (run : Run E A) → Keeps cap (grown (empty_log cap) run) run.events run.reads

-- Keeping each read once leaves none out.
abbrev pub EachReadIsKept : Type 0
EachReadIsKept = (reads : List Read) (read : Read) → Contains reads read → Contains (each_once reads) read
