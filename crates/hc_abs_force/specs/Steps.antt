-- The sections one after the other, as code has them: for each a mark more.
use Rattle.std.specs.Prelude.{◌≡◌, ℕ, List, [], ◌∷◌, ◌++◌, length, Bool, option_map}
use Rattle.hc_merge.specs.Candidates.{Candidate}
use Rattle.hc_merge.specs.Reaching.{Chain, resolved}
use Rattle.hc_plan.specs.Branches.{Branch}
use Rattle.hc_plan.specs.Coded.{AreNext, IsNext}
use Rattle.hc_plan.specs.Plan.{Plan, done}
use Rattle.hc_plan.specs.States.{Given}
use Rattle.hc_plan.specs.Texts.{Three}
use Rattle.hc_abs_pass.specs.Sections.{if_so, section_plan, sections_plan}
use Rattle.hc_abs_pass.specs.Views.{Scene}
use Rattle.hc_abs_view.specs.Viewing.{SeenAt, scene_of}
use Rattle.hc_abs_view.specs.declared.scene.Scene.{Scene as LentScene}
use Rattle.hc_abs_force.specs.Forcing.{marked}
use Rattle.hc_abs_force.specs.Merging.{merges}
use Rattle.hc_abs_force.specs.declared.forcing.Forced.{Forced}

-- Which of the sections so far apply, and those.
pub record Standing : Type 0 where
  pub marks : List Bool
  pub kept : List Candidate

abbrev pub with_mark : Standing → Candidate → Bool → Standing
with_mark standing candidate is =
    record { marks = standing.marks ++ is ∷ []; kept = standing.kept ++ if_so merges is candidate }

-- One section.
abbrev pub step_plan : Scene → Chain → Candidate → Standing → Plan Standing
step_plan scene chain candidate standing =
    section_plan merges scene standing.marks candidate (option_map (resolved chain) candidate.reach)
    (λ is. done (with_mark standing candidate is))

-- What is left of them.
abbrev pub rest_plan : Scene → Chain → List Candidate → Standing → Plan (List Candidate)
rest_plan scene chain candidates standing =
    sections_plan merges scene standing.marks chain standing.kept candidates

-- Behind these sections.
pub record StandFits (scene : LentScene) (given : Three (ℕ → Given)) (before : List Candidate) (forced : Forced)
    (branch : Branch Standing) :
    Type 0 where
  pub seen : SeenAt scene given forced.tied branch.0
  pub marks : (branch.1).marks ≡ forced.marks.items
  pub kept : (branch.1).kept ≡ marked forced.marks.items before
  pub many : length forced.marks.items ≡ length before

-- What one of them leaves.
module _ (scene : LentScene) (chain : Chain) (candidate : Candidate) where
  abbrev pub IsPast : Forced → List Forced → Type 0
  IsPast one found = (given : Three (ℕ → Given)) (before : List Candidate)
      → IsNext (StandFits scene given before) (StandFits scene given (before ++ candidate ∷ []))
      (step_plan (scene_of scene) chain candidate) one found

  abbrev pub ArePast : List Forced → List Forced → Type 0
  ArePast earlier later = (given : Three (ℕ → Given)) (before : List Candidate)
      → AreNext (StandFits scene given before) (StandFits scene given (before ++ candidate ∷ []))
      (step_plan (scene_of scene) chain candidate) earlier later
