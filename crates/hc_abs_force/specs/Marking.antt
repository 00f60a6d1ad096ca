-- The branches of what a section asks, as code has them: a mark more.
use Rattle.std.specs.Prelude.{◌≡◌, ℕ, List, [], ◌∷◌, ◌++◌, Bool, true, false, Option, None, Some}
use Rattle.hc_dfa.specs.Automata.{Automaton}
use Rattle.hc_dfa.specs.Built.{Accepts}
use Rattle.hc_dfa.specs.Texts.{TextSet}
use Rattle.hc_merge.specs.Reaching.{holds_at}
use Rattle.hc_plan.specs.Branches.{Branch}
use Rattle.hc_plan.specs.Coded.{AllFit, AreBranches}
use Rattle.hc_plan.specs.Plan.{done}
use Rattle.hc_plan.specs.Slots.{Slot}
use Rattle.hc_plan.specs.States.{AbsState, Given}
use Rattle.hc_plan.specs.Texts.{Three}
use Rattle.hc_plan.specs.declared.hand.Way.{Way}
use Rattle.hc_plan.specs.declared.storing.Tied.{Tied}
use Rattle.hc_abs_view.specs.Viewing.{SeenAt, scene_of}
use Rattle.hc_abs_view.specs.declared.scene.Scene.{Scene as LentScene}
use Rattle.hc_abs_view.specs.declared.viewing.Viewed.{Viewed}
use Rattle.hc_abs_force.specs.Asking.{Question, in_slot, question_plan}
use Rattle.hc_abs_force.specs.declared.forcing.Forced.{Forced}

-- These states, with a mark behind those so far.
abbrev pub IsMarked : List Bool → Tied → Bool → Forced → Type 0
IsMarked marks tied is forced = (forced.tied ≡ tied) × (forced.marks.items ≡ marks ++ is ∷ [])

abbrev pub IsAlone : Forced → Bool → List Forced → Type 0
IsAlone one is found = (marked : Forced) × (found ≡ marked ∷ []) × IsMarked one.marks.items one.tied is marked

-- The way of a test, if there is one.
abbrev pub tied_on : Forced → Way → Tied
tied_on one way = record { cell = way.cell; ties = one.tied.ties }

abbrev pub IsLeft : Forced → Bool → Option Way → List Forced → Type 0
IsLeft one is None found = found ≡ []
IsLeft one is (Some way) found =
    (marked : Forced) × (found ≡ marked ∷ []) × IsMarked one.marks.items (tied_on one way) is marked

abbrev pub AddsLeft : Forced → Bool → Option Way → List Forced → List Forced → Type 0
AddsLeft one is way before after = (found : List Forced) × (after ≡ before ++ found) × IsLeft one is way found

-- Each branch of an expression.
abbrev pub IsMarkedAs : List Bool → Viewed → Forced → Type 0
IsMarkedAs marks viewed forced = IsMarked marks viewed.tied viewed.holds forced

abbrev pub AreMarked : List Bool → List Viewed → List Forced → Type 0
AreMarked marks = AllFit (IsMarkedAs marks)

-- ---- the branches of a question

-- The end is the mark.
pub record MarkFits (scene : LentScene) (given : Three (ℕ → Given)) (marks : List Bool) (forced : Forced)
    (branch : Branch Bool) :
    Type 0 where
  pub seen : SeenAt scene given forced.tied branch.0
  pub more : forced.marks.items ≡ marks ++ branch.1 ∷ []

abbrev pub AnswersFor : LentScene → Question → Forced → List Forced → Type 0
AnswersFor scene question one found = (given : Three (ℕ → Given)) (state : AbsState) → SeenAt scene given one.tied state
    → AreBranches (MarkFits scene given one.marks.items)
    (question_plan (scene_of scene) question (λ is. done is)) state found

-- Whether the text of a slot is in the set of an automaton.
abbrev pub AnswersSlot : Slot → Automaton → Forced → List Forced → Type 0
AnswersSlot slot own one found =
    (scene : LentScene) (set : TextSet) → Accepts own set → AnswersFor scene (in_slot slot set) one found

-- ---- for all branches so far

-- What each leaves, one behind the other.
abbrev pub EachLeaves : (Forced → List Forced → Type 0) → List Forced → List Forced → Type 0
EachLeaves Leaves [] later = later ≡ []
EachLeaves Leaves (one ∷ earlier) later = (found : List Forced) × (rest : List Forced) × (later ≡ found ++ rest)
    × Leaves one found × EachLeaves Leaves earlier rest

abbrev pub AreAlone : Bool → List Forced → List Forced → Type 0
AreAlone is = EachLeaves (λ one found. IsAlone one is found)

-- It is tried where the section around it applies, and doesn't apply elsewhere.
abbrev pub IsTriedWhere : Bool → (Forced → List Forced → Type 0) → Forced → List Forced → Type 0
IsTriedWhere true Answers one found = Answers one found
IsTriedWhere false Answers one found = IsAlone one false found

abbrev pub IsTried : (Forced → List Forced → Type 0) → Option ℕ → Forced → List Forced → Type 0
IsTried Answers parent one found = IsTriedWhere (holds_at one.marks.items parent) Answers one found

abbrev pub AreTried : (Forced → List Forced → Type 0) → Option ℕ → List Forced → List Forced → Type 0
AreTried Answers parent = EachLeaves (IsTried Answers parent)
