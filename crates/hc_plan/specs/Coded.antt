-- Code's branches are those of a plan, where what code knows of a state fits the state that plans speak of.
use Rattle.std.specs.Prelude.{◌≡◌, List, [], ◌∷◌, ◌++◌}
use Rattle.hc_plan.specs.Branches.{Branch, Branches}
use Rattle.hc_plan.specs.Plan.{Plan}
use Rattle.hc_plan.specs.States.{AbsState}

-- They fit one for one.
abbrev pub AllFit : {B C : Type 0} → (B → C → Type 0) → List B → List C → Type 0
AllFit Fit [] cs = cs ≡ []
AllFit {B} {C} Fit (b ∷ bs) cs = (c : C) × (rest : List C) × (cs ≡ c ∷ rest) × Fit b c × AllFit Fit bs rest

-- What code found are the branches of the plan.
abbrev pub AreBranches : {A B : Type 0} → (B → Branch A → Type 0) → Plan A → AbsState → List B → Type 0
AreBranches {A} Fit plan state found =
    (branches : List (Branch A)) × Branches plan state branches × AllFit Fit found branches

module _ {A B X Y : Type 0} (First : X → Branch A → Type 0) (Fit : Y → Branch B → Type 0) (next : A → Plan B) where
  -- These are the branches of what follows a branch that was found.
  abbrev pub IsNext : X → List Y → Type 0
  IsNext x found = (branch : Branch A) → First x branch → AreBranches Fit (next branch.1) branch.0 found

  -- They are added to what was found before.
  abbrev pub AddsNext : X → List Y → List Y → Type 0
  AddsNext x before after = (found : List Y) × (after ≡ before ++ found) × IsNext x found

  -- What follows each of them, one after the other.
  abbrev pub AreNext : List X → List Y → Type 0
  AreNext [] found = found ≡ []
  AreNext (x ∷ xs) found =
      (one : List Y) × (other : List Y) × (found ≡ one ++ other) × IsNext x one × AreNext xs other
