-- Where the rules of a directory begin.
use Rattle.std.specs.Prelude.{ℕ, List, true, false, Option}
use Rattle.hc_addr.specs.declared.addr.Addr.{Addr}
use Rattle.hc_model.specs.declared.event.Decision.{Decision}
use Rattle.hc_plan.specs.Branches.{renamed}
use Rattle.hc_plan.specs.Plan.{Plan}
use Rattle.hc_plan.specs.Slots.{Slot}
use Rattle.hc_plan.specs.States.{AbsState}
use Rattle.hc_plan.specs.declared.storing.Tied.{Tied}
use Rattle.hc_abs_pass.specs.Ends.{EndsAt}
use Rattle.hc_abs_pass.specs.Passing.{Ground, Segment, Settings, any_slot, follow_plan, is_itself, left_plan}
use Rattle.hc_abs_pass.specs.Passing.{list_source}
use Rattle.hc_abs_pass.specs.Sections.{of_slot}
use Rattle.hc_abs_rw.specs.RuleBranches.{Rests}

-- Where END was not met, by whether the name is the directory itself.
abbrev pub named_plan : Ground → Settings → List ℕ → List Decision → Plan Segment
named_plan ground settings dir decisions = of_slot Slot.Name (is_itself ground dir) (λ itself. elim itself [
  | true ↦ left_plan ground settings decisions false
  | false ↦ follow_plan ground settings dir decisions
])

-- The file name is the text that is rewritten.
abbrev pub begun_at : Ground → AbsState → AbsState
begun_at ground state = renamed state (list_source ground) (any_slot ground)
    (record { origin_path = true; text_path = false; text_name = true; query_first = true })

abbrev pub IsBegun : Tied → Tied → Type 0
IsBegun tied made = (ground : Ground) (client : Option Addr) (state : AbsState) → EndsAt client tied state
    → Rests client made (begun_at ground state)
