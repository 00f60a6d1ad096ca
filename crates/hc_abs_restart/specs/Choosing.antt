-- Whether the rules left the file name as it was, as what is known of a set of requests says.
use Rattle.std.specs.Prelude.{◌≡◌, ℕ, List, Bool, true, false, Option}
use Rattle.hc_addr.specs.declared.addr.Addr.{Addr}
use Rattle.hc_dfa.specs.Texts.{TextSet}
use Rattle.hc_plan.specs.Branches.{Branch, Branches, May, Where}
use Rattle.hc_plan.specs.Coded.{AllFit}
use Rattle.hc_plan.specs.Hands.{cell_of}
use Rattle.hc_plan.specs.Plan.{Plan, equal}
use Rattle.hc_plan.specs.Slots.{Slot, Ties, tied}
use Rattle.hc_plan.specs.States.{AbsState, IsOnly}
use Rattle.hc_plan.specs.declared.storing.Tied.{Tied}
use Rattle.hc_abs_pass.specs.Ends.{EndsAt, Left}
use Rattle.hc_abs_restart.specs.Restarted.{RestartedFits}
use Rattle.hc_abs_restart.specs.declared.restart.Restarted.{Restarted}

-- The text may be the file name, or may be another.
abbrev pub MayBe : (Slot → TextSet) → Ties → Bool → Type 0
MayBe cell ties true = (m : List ℕ) × (cell Slot.Text m ≡ true) × (cell Slot.Name m ≡ true)
MayBe cell ties false =
    (tied ties Slot.Text Slot.Name ≡ false)
    × (((m : List ℕ) × IsOnly (cell Slot.Text) m × IsOnly (cell Slot.Name) m) → ⊥)

abbrev pub MaySay : Tied → Bool → Type 0
MaySay tied is = MayBe (cell_of tied.cell) tied.ties is

-- The answer says whether it holds.
abbrev pub IsAnswer : Type 0 → Bool → Type 0
IsAnswer P true = P
IsAnswer P false = P → ⊥

-- These are the branches of what follows an answer, where it may be given, and none where it may not.
abbrev pub OnAnswer : Tied → Bool → Plan Left → List Restarted → Type 0
OnAnswer before is plan found = (client : Option Addr) (state : AbsState) → EndsAt client before state
    → (branches : List (Branch Left))
    × Where (May (equal Slot.Text Slot.Name) state is) (Branches plan state) branches
    × AllFit (RestartedFits client) found branches
