-- The branches of a segment of a pass, as code has them.
use Rattle.std.specs.Prelude.{◌≡◌, ℕ, List, Bool, Option}
use Rattle.std.specs.Rc.{rc_value}
use Rattle.hc_addr.specs.declared.addr.Addr.{Addr}
use Rattle.hc_model.specs.declared.event.Decision.{Decision}
use Rattle.hc_model.specs.declared.request.Caller.{Caller}
use Rattle.hc_model.specs.declared.section.Body.{Body}
use Rattle.hc_plan.specs.Branches.{Branch, no_text}
use Rattle.hc_plan.specs.Coded.{AreBranches}
use Rattle.hc_plan.specs.Plan.{Plan}
use Rattle.hc_plan.specs.States.{AbsState}
use Rattle.hc_plan.specs.Texts.{all_three}
use Rattle.hc_plan.specs.declared.storing.Tied.{Tied}
use Rattle.hc_abs_pass.specs.Ends.{EndsAt, left_of}
use Rattle.hc_abs_pass.specs.Listing.{so_far_of}
use Rattle.hc_abs_pass.specs.Passing as plans
use Rattle.hc_abs_pass.specs.Passing.{Settings, dir_round_plan, engine_by, left_plan, ruled, stopped}
use Rattle.hc_abs_pass.specs.declared.list.SoFar.{SoFar}
use Rattle.hc_abs_restart.specs.Restarted.{PutDown}
use Rattle.hc_abs_rw.specs.Applied.{next_of}
use Rattle.hc_abs_rw.specs.RuleBranches.{Rests}
use Rattle.hc_abs_left.specs.Grounds.{SettingsFit, ground_in}
use Rattle.hc_abs_left.specs.declared.ground.Ground.{Ground}
use Rattle.hc_abs_left.specs.declared.ground.Settings.{Settings as LentSettings}
use Rattle.hc_abs_left.specs.declared.segment.Finish.{Finish}
use Rattle.hc_abs_left.specs.declared.segment.Finish.TheVariants as finish
use Rattle.hc_abs_left.specs.declared.segment.Segment.{Segment}

-- ---- ends

abbrev pub FinishFits : Caller → Finish → plans.Finish → Type 0
FinishFits caller (finish.Stopped left) end = end ≡ stopped (left_of left)
FinishFits caller (finish.Ruled next) end = end ≡ ruled (next_of caller next)
FinishFits caller (finish.ServerRound rule left) end = end ≡ plans.server_round rule (so_far_of left)
FinishFits caller (finish.DirRound settings rule left) end =
    (own : Settings) × SettingsFit (rc_value settings) own × (end ≡ plans.dir_round own rule (so_far_of left))

-- Where a pass or a round follows, no text is in hand.
abbrev pub RestsAt : plans.Finish → AbsState → Type 0
RestsAt (stopped left) state = PutDown left state
RestsAt other state = state.texts ≡ all_three no_text

pub record SegmentFits (client : Option Addr) (caller : Caller) (segment : Segment) (branch : Branch plans.Segment) :
    Type 0 where
  pub at : EndsAt client segment.tied branch.0
  pub texts : RestsAt (branch.1).finish branch.0
  pub decided : (branch.1).decisions ≡ segment.decisions
  pub require : (branch.1).require ≡ segment.require
  pub finish : FinishFits caller segment.finish (branch.1).finish

-- These are the branches of a plan for what is lent.
abbrev pub Are : (ground : Ground) → Plan plans.Segment → AbsState → List Segment → Type 0
Are ground = AreBranches (SegmentFits ground.client ground.tests.now)

-- ---- behind the rules of a directory

-- Those behind these rules, where they ran, or where they didn't.
abbrev pub AreLeft : Ground → LentSettings → List Decision → Bool → Tied → List Segment → Type 0
AreLeft ground lent decisions ran before found = (levels : ℕ) (merges : Body → Bool) (settings : Settings) (state : AbsState)
    → SettingsFit lent settings → EndsAt ground.client before state
    → Are ground (left_plan (ground_in levels merges ground) settings decisions ran) state found

-- Those of one round of these rules.
abbrev pub AreDirRound : Ground → LentSettings → List ℕ → SoFar → Tied → List Segment → Type 0
AreDirRound ground lent dir so_far before found = (levels : ℕ) (merges : Body → Bool) (settings : Settings)
    (state : AbsState) → SettingsFit lent settings → Rests ground.client before state
    → Are ground (dir_round_plan (ground_in levels merges ground) settings
    (engine_by (ground_in levels merges ground) settings dir) (so_far_of so_far)) state found
