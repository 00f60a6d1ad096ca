-- The branches of the sections that apply, as code has them.
use Rattle.std.specs.Prelude.{◌≡◌, ℕ, List, [], ◌∷◌, Bool, true, false}
use Rattle.hc_merge.specs.Candidates.{Candidate}
use Rattle.hc_plan.specs.Branches.{Branch, no_text}
use Rattle.hc_plan.specs.Coded.{AreBranches}
use Rattle.hc_plan.specs.States.{AbsState, Given}
use Rattle.hc_plan.specs.Texts.{Three, all_three}
use Rattle.hc_plan.specs.declared.storing.Tied.{Tied}
use Rattle.hc_abs_pass.specs.Sections.{sections_plan}
use Rattle.hc_abs_view.specs.Viewing.{SeenAt, scene_of}
use Rattle.hc_abs_view.specs.declared.scene.Scene.{Scene as LentScene}
use Rattle.hc_abs_force.specs.Merging.{merges}
use Rattle.hc_abs_force.specs.declared.forcing.Forced.{Forced}

-- The candidates of which a mark says that they apply.
abbrev pub marked : List Bool → List Candidate → List Candidate
marked [] candidates = []
marked (is ∷ marks) [] = []
marked (true ∷ marks) (candidate ∷ candidates) = candidate ∷ marked marks candidates
marked (false ∷ marks) (candidate ∷ candidates) = marked marks candidates

pub record ForcedFits (scene : LentScene) (given : Three (ℕ → Given)) (candidates : List Candidate) (forced : Forced)
    (branch : Branch (List Candidate)) :
    Type 0 where
  pub seen : SeenAt scene given forced.tied branch.0
  pub texts : (branch.0).texts ≡ all_three no_text
  pub kept : branch.1 ≡ marked forced.marks.items candidates

-- These are the branches of the sections, one test after another.
abbrev pub AreForced : LentScene → List Candidate → Tied → List Forced → Type 0
AreForced scene candidates before found = (given : Three (ℕ → Given)) (state : AbsState)
    → SeenAt scene given before state
    → AreBranches (ForcedFits scene given candidates) (sections_plan merges (scene_of scene) [] [] [] candidates) state
    found
