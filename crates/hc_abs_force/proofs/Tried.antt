-- A section that is tried in all branches so far.
use Rattle.std.proofs.Common.{ℕ, List, Bool, true, false, Option, sym, subst}
use Rattle.hc_dfa.specs.Automata.{Automaton}
use Rattle.hc_dfa.specs.Built.{Accepts}
use Rattle.hc_dfa.specs.Texts.{TextSet}
use Rattle.hc_merge.specs.Reaching.{holds_at}
use Rattle.hc_plan.specs.Coded.{AreBranches}
use Rattle.hc_plan.specs.Plan.{done, put_down}
use Rattle.hc_plan.specs.Slots.{Slot}
use Rattle.hc_abs_view.specs.declared.scene.Scene.{Scene as LentScene}
use Rattle.hc_abs_force.specs.Asking.{in_slot, never}
use Rattle.hc_abs_force.specs.Marking.{AnswersFor, AnswersSlot, AreAlone, AreTried, IsAlone, IsTried, IsTriedWhere, MarkFits}
use Rattle.hc_abs_force.specs.declared.forcing.Forced.{Forced}
use Rattle.hc_abs_force.proofs.Answering.{put_fits}
use Rattle.hc_abs_force.proofs.Each.{each_so}

-- By what the text of a slot is tested for.
pub slot_tried : (slot : Slot) (own : Automaton) (set : TextSet) → Accepts own set → (scene : LentScene)
    (parent : Option ℕ) (earlier later : List Forced) → AreTried (AnswersSlot slot own) parent earlier later
    → AreTried (AnswersFor scene (in_slot slot set)) parent earlier later
slot_tried slot own set is scene parent =
    each_so (IsTried (AnswersSlot slot own) parent) (IsTried (AnswersFor scene (in_slot slot set)) parent)
    (λ one found. by one found (holds_at one.marks.items parent))
  where
    by : (one : Forced) (found : List Forced) (holds : Bool) → IsTriedWhere holds (AnswersSlot slot own) one found
        → IsTriedWhere holds (AnswersFor scene (in_slot slot set)) one found
    by one found true answers = answers scene set is
    by one found false alone = alone

never_answers : (scene : LentScene) (one : Forced) (found : List Forced) → IsAlone one false found
    → AnswersFor scene never one found
never_answers scene one found is given state seen =
    subst (AreBranches (MarkFits scene given one.marks.items) (put_down (done false)) state) (sym is.1)
    (put_fits scene given one false is.0 state seen is.2)

-- One that never applies.
pub never_tried : (scene : LentScene) (parent : Option ℕ) (earlier later : List Forced) → AreAlone false earlier later
    → AreTried (AnswersFor scene never) parent earlier later
never_tried scene parent =
    each_so (λ one found. IsAlone one false found) (IsTried (AnswersFor scene never) parent)
    (λ one found. by one found (holds_at one.marks.items parent))
  where
    by : (one : Forced) (found : List Forced) (holds : Bool) → IsAlone one false found
        → IsTriedWhere holds (AnswersFor scene never) one found
    by one found true alone = never_answers scene one found alone
    by one found false alone = alone
