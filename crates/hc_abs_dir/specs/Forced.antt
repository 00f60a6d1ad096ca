-- The branches of what follows what is in force, as code has them.
use Rattle.std.specs.Prelude.{ℕ, List, Bool}
use Rattle.hc_model.specs.declared.event.Decision.{Decision}
use Rattle.hc_model.specs.declared.section.Body.{Body}
use Rattle.hc_plan.specs.States.{AbsState}
use Rattle.hc_plan.specs.declared.storing.Tied.{Tied}
use Rattle.hc_abs_left.specs.Grounds.{HasClients, SettingsFit, ground_in}
use Rattle.hc_abs_left.specs.Segments.{Are}
use Rattle.hc_abs_left.specs.declared.ground.Ground.{Ground}
use Rattle.hc_abs_left.specs.declared.ground.Settings.{Settings as LentSettings}
use Rattle.hc_abs_left.specs.declared.segment.Segment.{Segment}
use Rattle.hc_abs_pass.specs.Ends.{EndsAt}
use Rattle.hc_abs_pass.specs.Passing.{Settings, force_plan}

-- These are the branches: who may pass, and then the rules of the directory.
abbrev pub AreForced : (ground : Ground) → LentSettings → List Decision → Tied → List Segment → Type 0
AreForced ground lent decisions before found = (levels : ℕ) (merges : Body → Bool) (settings : Settings) (state : AbsState)
    → SettingsFit lent settings → HasClients ground state → EndsAt ground.client before state
    → Are ground (force_plan (ground_in levels merges ground) settings decisions) state found
