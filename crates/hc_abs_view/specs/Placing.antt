-- Where states stand among the forks of an expression.
use Rattle.std.specs.Prelude.{◌≡◌, ℕ, List, [], ◌∷◌, ◌++◌, Bool, false, Option, None, Some}
use Rattle.hc_cells.specs.Cells.{Sets}
use Rattle.hc_cells.specs.declared.ties.Ties.{Ties}
use Rattle.hc_plan.specs.Coded.{AreBranches, AreNext, IsNext}
use Rattle.hc_plan.specs.States.{AbsState, Given}
use Rattle.hc_plan.specs.Texts.{Three}
use Rattle.hc_plan.specs.declared.storing.Tied.{Tied}
use Rattle.hc_abs_view.specs.Jumping.{fork_plan, rest_plan}
use Rattle.hc_abs_view.specs.Seen.{PlacedFits, tied_at}
use Rattle.hc_abs_view.specs.Trees.{Fork}
use Rattle.hc_abs_view.specs.Viewing.{SeenAt, ViewedFits, scene_of}
use Rattle.hc_abs_view.specs.declared.jump.Target.{Target}
use Rattle.hc_abs_view.specs.declared.jump.Target.TheVariants.{Behind, Over}
use Rattle.hc_abs_view.specs.declared.placed.Placed.{Placed}
use Rattle.hc_abs_view.specs.declared.scene.Scene.{Scene}
use Rattle.hc_abs_view.specs.declared.viewing.Viewed.{Viewed}

abbrev pub placed_at : Tied → Target → Placed
placed_at tied target = record { tied = tied; target = target }

-- What is left of a side.
abbrev pub placed_on : Ties → Target → Option Sets → List Placed
placed_on ties target None = []
placed_on ties target (Some cell) = placed_at (tied_at cell ties) target ∷ []

-- Behind the first fork of what is left.
abbrev pub IsPast : Scene → Fork → Placed → List Placed → Type 0
IsPast scene fork placed found =
    (given : Three (ℕ → Given))
    → IsNext (PlacedFits scene given) (PlacedFits scene given) (fork_plan (scene_of scene) fork) placed found

abbrev pub AddsPast : Scene → Fork → Placed → List Placed → List Placed → Type 0
AddsPast scene fork placed earlier later =
    (found : List Placed) × (later ≡ earlier ++ found) × IsPast scene fork placed found

abbrev pub ArePast : Scene → Fork → List Placed → List Placed → Type 0
ArePast scene fork placed later =
    (given : Three (ℕ → Given))
    → AreNext (PlacedFits scene given) (PlacedFits scene given) (fork_plan (scene_of scene) fork) placed later

-- What is left of the forks.
abbrev pub InRest : Scene → List Fork → List Placed → List Viewed → Type 0
InRest scene forks placed found =
    (given : Three (ℕ → Given))
    → AreNext (PlacedFits scene given) (ViewedFits scene given) (rest_plan (scene_of scene) forks) placed found

-- These are the branches of forks.
abbrev pub AreForked : Scene → List Fork → Tied → List Viewed → Type 0
AreForked scene forks before found =
    (given : Three (ℕ → Given)) (state : AbsState) → SeenAt scene given before state
    → AreBranches (ViewedFits scene given) (rest_plan (scene_of scene) forks (Behind 0)) state found

-- Behind all forks the expression holds or it doesn't.
abbrev pub is_over : Target → Bool
is_over (Over is) = is
is_over (Behind count) = false

abbrev pub viewed_at : Placed → Viewed
viewed_at placed = record { tied = placed.tied; holds = is_over placed.target }
