-- What a step in code answers and tells.
use denote.Triple.Both.{Both}
use Rattle.std.specs.Prelude.{◌≡◌, ℕ, ◌+◌, nat_lt, List, [], ◌∷◌, ◌++◌, length, take, Bool, true}
use Rattle.std.specs.Prelude.{if◌then◌else◌, Option, Some, None, Result, Ok, Err}
use Rattle.std.specs.Borrow.{MutBor}
use Rattle.std.specs.List.{fold}
use Rattle.hc_base.specs.declared.fault.Fault.{Fault}
use Rattle.hc_base.specs.declared.fault.Fault.TheVariants.{NoMemory, Refused}
use Rattle.hc_model.specs.declared.event.Event.{Event}
use Rattle.std.specs.BTreeSet.{insert_key}
use Rattle.hc_model.specs.Reads.{read_cmp}
use Rattle.hc_model.specs.declared.read.Read.{Read}
use Rattle.hc_steps.specs.Run.{Run, goes_on, is_over, run}
use Rattle.hc_steps.specs.Step.{Shown, Step}

-- What was told so far: at most how many events are kept, those that are, how many there were, and
-- each read once and in order.
pub record Logged : Type 0 where
  pub cap : Option ℕ
  pub kept : List Event
  pub count : ℕ
  pub reads : List Read

abbrev pub has_room : Option ℕ → List Event → Bool
has_room None kept = true
has_room (Some cap) kept = nat_lt (length kept) cap

abbrev pub first_of : Option ℕ → List Event → List Event
first_of None events = events
first_of (Some cap) events = take cap events

-- An event is counted, and kept where there is room.
abbrev pub with_event : Logged → Event → Logged
with_event log event =
    record log {
      kept = if has_room log.cap log.kept then log.kept ++ event ∷ [] else log.kept;
      count = log.count + 1;
    }

abbrev pub with_events : Logged → List Event → Logged
with_events log events = fold with_event log events

-- A read that is there already adds nothing.
abbrev pub with_read : Logged → Read → Logged
with_read log read = record log { reads = insert_key read_cmp log.reads read }

abbrev pub with_reads : Logged → List Read → Logged
with_reads log reads = fold with_read log reads

-- What a log is after a run.
abbrev pub grown : {E A : Type 0} → Logged → Run E A → Logged
grown log run = with_reads (with_events log run.events) run.reads

-- The answer goes on with the value or ends with the end that the run has, and the log has grown by
-- what the run tells, unless memory was refused.
unfoldable pub Ran : {E A : Type 0} → Result A (Fault E) → Logged → Logged → Run E A → Type 0
Ran (Ok left) old new run = (run.way ≡ goes_on left) × (new ≡ grown old run)
Ran (Err (Refused end)) old new run = (run.way ≡ is_over end) × (new ≡ grown old run)
Ran (Err NoMemory) old new run = Unit {0}

-- The answer and the log, before and behind the call, are those of the step in what is shown.
abbrev pub Takes : {E A : Type 0} → Result A (Fault E) → Both (MutBor Logged) (MutBor Logged) → Step E A → Shown
    → Type 0
Takes result log step shown = Ran result log.entry.now log.exit.now (run step shown)

-- So are those of a step that looks at nothing, whatever is shown.
abbrev pub Tells : {E A : Type 0} → Result A (Fault E) → Both (MutBor Logged) (MutBor Logged) → Step E A
    → Type 0
Tells result log step = (shown : Shown) → Takes result log step shown

-- The answer is that of a step that tells nothing either, whatever the log holds.
abbrev pub Answers : {E A : Type 0} → Result A (Fault E) → Step E A → Type 0
Answers result step = (log : Logged) (shown : Shown) → Ran result log log (run step shown)

-- Whatever the rest comes to from this log on, the whole comes to from the first one.
pub record Leads {E A : Type 0} (old : Logged) (whole : Run E A) (now : Logged) (rest : Run E A) : Type 0 where
  pub leads : (answer : Result A (Fault E)) (new : Logged) → Ran answer now new rest → Ran answer old new whole
