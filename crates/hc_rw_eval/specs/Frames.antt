-- What a frame of the code is to the definitions.
use Rattle.std.specs.Prelude.{ℕ, List, Option, Result, Ok, Err}
use Rattle.hc_base.specs.declared.fault.Fault.{Fault}
use Rattle.hc_base.specs.declared.fault.Fault.TheVariants.{Refused}
use Rattle.hc_rw_eval.specs.declared.frame.Frame.{Frame}
use Rattle.hc_rw_expand.specs.Contexts.{Context, context_of}
use Rattle.hc_rw_expand.specs.Lookups.{Looks, Values}
use Rattle.hc_steps.specs.Shown.{shown_by}
use Rattle.hc_steps.specs.Step.{Shown}

abbrev pub context_at : {P : Type 0} → Frame P → Context
context_at frame = context_of frame.context.now

abbrev pub shown_at : {P : Type 0} → Frame P → Shown
shown_at frame = shown_by frame.world.now.files

-- What maps give in the one world in which the code runs.
abbrev pub looks_in : (List ℕ → Option (List ℕ)) → Values → Looks
looks_in files values = record { file = files; value = λ name key text. values name key }

abbrev pub looks_at : {P : Type 0} → (P → List ℕ → Option (List ℕ)) → (P → Values) → Frame P → Looks
looks_at files values frame = looks_in (files frame.look.now) (values frame.look.now)

-- What a run came to, as a step answers it.
abbrev pub as_step : {A E : Type 0} → Result A E → Result A (Fault E)
as_step (Ok left) = Ok left
as_step (Err end) = Err (Refused end)
