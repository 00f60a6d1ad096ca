-- Behind one round of the rules of a directory.
use Rattle.std.specs.Prelude.{◌≡◌, ℕ, List, Bool, true, false}
use Rattle.std.specs.Rc.{rc_value}
use Rattle.hc_model.specs.declared.rewrite.Rule.{Rule}
use Rattle.hc_model.specs.declared.section.Body.{Body}
use Rattle.hc_plan.specs.Coded.{AddsNext, AreNext}
use Rattle.hc_plan.specs.declared.storing.Tied.{Tied}
use Rattle.hc_abs_pass.specs.Listing.{ListedFits}
use Rattle.hc_abs_pass.specs.Passing as plans
use Rattle.hc_abs_pass.specs.Passing.{dir_left}
use Rattle.hc_abs_pass.specs.declared.list.Listed.{Listed}
use Rattle.hc_abs_pass.specs.declared.list.SoFar.{SoFar}
use Rattle.hc_abs_rw.specs.Frames.{common}
use Rattle.hc_abs_left.specs.Grounds.{SettingsFit, ground_in}
use Rattle.hc_abs_left.specs.Segments.{SegmentFits}
use Rattle.hc_abs_left.specs.declared.ground.Ground.{Ground}
use Rattle.hc_abs_left.specs.declared.ground.Settings.{Settings}
use Rattle.hc_abs_left.specs.declared.segment.Finish.{Finish}
use Rattle.hc_abs_left.specs.declared.segment.Finish.TheVariants as finish
use Rattle.hc_abs_left.specs.declared.segment.Segment.{Segment}

-- The target's path and the pass's are tied no more, where that is asked.
abbrev pub untied_so : Bool → Tied → Tied
untied_so true tied = record { cell = tied.cell; ties = record (tied.ties) { origin_path = false } }
untied_so false tied = tied

-- The rule begins the list again, with these settings.
abbrev pub IsRoundOf : Settings → Rule → SoFar → Finish → Type 0
IsRoundOf settings rule left (finish.DirRound own other so_far) =
    (rc_value own ≡ settings) × (other ≡ rule) × (so_far ≡ left)
IsRoundOf settings rule left other = ⊥

pub record BeginsAgain (settings : Settings) (rule : Rule) (tied : Tied) (left : SoFar) (segment : Segment) : Type 0 where
  pub tied_is : segment.tied ≡ tied
  pub decided : segment.decisions ≡ left.decisions
  pub require : segment.require ≡ settings.force.require
  pub finish : IsRoundOf settings rule left segment.finish

-- What follows the ends of a list of rules.
module _ (ground : Ground) (settings : Settings) where
  abbrev pub AddsPast : Listed → List Segment → List Segment → Type 0
  AddsPast one earlier later = (levels : ℕ) (merges : Body → Bool) (own : plans.Settings) → SettingsFit settings own
      → AddsNext (ListedFits ground.client (common ground.tests.now)) (SegmentFits ground.client ground.tests.now)
      (dir_left (ground_in levels merges ground) own) one earlier later

  abbrev pub ArePast : List Listed → List Segment → Type 0
  ArePast listed found = (levels : ℕ) (merges : Body → Bool) (own : plans.Settings) → SettingsFit settings own
      → AreNext (ListedFits ground.client (common ground.tests.now)) (SegmentFits ground.client ground.tests.now)
      (dir_left (ground_in levels merges ground) own) listed found
