-- What follows what is in force, step by step, as code has it.
use Rattle.std.specs.Prelude.{◌≡◌, ℕ, List, [], Bool, true, false, Option, None, Some}
use Rattle.hc_addr.specs.declared.addr.Addr.{Addr}
use Rattle.hc_model.specs.declared.event.Decision.{Decision}
use Rattle.hc_model.specs.declared.section.Body.{Body}
use Rattle.hc_plan.specs.Branches.{Branch}
use Rattle.hc_plan.specs.Coded.{AreBranches, AreNext}
use Rattle.hc_plan.specs.Plan.{Plan, done}
use Rattle.hc_plan.specs.States.{AbsState}
use Rattle.hc_plan.specs.declared.storing.Tied.{Tied}
use Rattle.hc_abs_authz.specs.Admitting.{AdmittedFits}
use Rattle.hc_abs_authz.specs.declared.admitting.Admitted.{Admitted}
use Rattle.hc_abs_left.specs.Grounds.{SettingsFit, ground_in}
use Rattle.hc_abs_left.specs.Segments.{SegmentFits}
use Rattle.hc_abs_left.specs.declared.ground.Ground.{Ground as LentGround}
use Rattle.hc_abs_left.specs.declared.ground.Settings.{Settings as LentSettings}
use Rattle.hc_abs_left.specs.declared.segment.Finish.TheVariants as finish
use Rattle.hc_abs_left.specs.declared.segment.Segment.{Segment}
use Rattle.hc_abs_pass.specs.Ends.{EndsAt, status}
use Rattle.hc_abs_pass.specs.Passing.{Ground, Settings, directory_plan, ends_so}
use Rattle.hc_abs_pass.specs.Passing.{Segment as End}
use Rattle.hc_abs_pass.specs.declared.ends.Left.TheVariants as left

-- The branches of a plan over these states, if there are any.
abbrev pub AreOn : {A B : Type 0} → (B → Branch A → Type 0) → Option Addr → Option Tied → Plan A → List B → Type 0
AreOn Fit client None plan found = found ≡ []
AreOn Fit client (Some tied) plan found =
    (state : AbsState) → EndsAt client tied state → AreBranches Fit plan state found

-- Those of a plan for what is lent, whatever is left open.
abbrev pub AreBy : LentGround → LentSettings → (Ground → Settings → Plan End) → Option Tied → List Segment → Type 0
AreBy ground lent plan given found = (levels : ℕ) (merges : Body → Bool) (settings : Settings) → SettingsFit lent settings
    → AreOn (SegmentFits ground.client ground.tests.now) ground.client given
    (plan (ground_in levels merges ground) settings) found

-- ---- who may pass

abbrev pub refused_plan : List Decision → Ground → Settings → Plan End
refused_plan decisions ground settings = done (ends_so settings.force.require decisions (status 403))

-- The branch of code.
abbrev pub refused_in : LentSettings → List Decision → Tied → Segment
refused_in lent decisions tied = record {
  tied = tied;
  decisions = decisions;
  require = lent.force.require;
  finish = finish.Stopped (left.Status 403);
}

abbrev pub answered_plan : List Decision → Ground → Settings → Bool → Plan End
answered_plan decisions ground settings is = elim is [
  | true ↦ directory_plan ground settings decisions settings.force.dir
  | false ↦ refused_plan decisions ground settings
]

module _ (ground : LentGround) (lent : LentSettings) (decisions : List Decision) where
  -- What follows one answer.
  abbrev pub IsBehind : Admitted → List Segment → Type 0
  IsBehind admitted =
      AreBy ground lent (λ own settings. answered_plan decisions own settings admitted.is) (Some admitted.tied)

  -- What follows each.
  abbrev pub AreBehind : List Admitted → List Segment → Type 0
  AreBehind answers found = (levels : ℕ) (merges : Body → Bool) (settings : Settings) → SettingsFit lent settings
      → AreNext (AdmittedFits ground.client) (SegmentFits ground.client ground.tests.now)
      (answered_plan decisions (ground_in levels merges ground) settings) answers found
