-- What follows where the rules left another text than the file name.
use Rattle.std.specs.Prelude.{ℕ, List, [], ◌∷◌, Option, option_map}
use Rattle.hc_addr.specs.declared.addr.Addr.{Addr}
use Rattle.hc_dfa.specs.Automata.{Automaton, accepts}
use Rattle.hc_dfa.specs.Texts.{IsText, TextSet}
use Rattle.hc_pat_lang.specs.Sets.{AcceptsOnly}
use Rattle.hc_plan.specs.Branches.{Image}
use Rattle.hc_plan.specs.Coded.{AreBranches, AreNext, IsNext}
use Rattle.hc_plan.specs.Hands.{parts_of}
use Rattle.hc_plan.specs.Plan.{Plan, done, make, put_down, take_up}
use Rattle.hc_plan.specs.Slots.{Slot}
use Rattle.hc_plan.specs.States.{AbsState, any_of, whole, with_text}
use Rattle.hc_plan.specs.Texts.{IsSetOf, pick}
use Rattle.hc_plan.specs.declared.storing.Tied.{Tied}
use Rattle.hc_rw_expand.specs.Contexts.{engine_of}
use Rattle.hc_rw_sets.specs.Made.{MadeOf}
use Rattle.hc_abs_rw.specs.Drafts.{slot_alone}
use Rattle.hc_abs_rw.specs.Templates.{main, slot_item}
use Rattle.hc_abs_pass.specs.Ends.{EndsAt, Left, next_pass}
use Rattle.hc_abs_pass.specs.Mapping.{Placing, named, over}
use Rattle.hc_abs_pass.specs.Restarting.{begun_again, unless_last}
use Rattle.hc_abs_pass.specs.Walking.{HasName}
use Rattle.hc_abs_pass.specs.declared.walk.Named.{Named}
use Rattle.hc_abs_map.specs.Mapped.{MappedFits}
use Rattle.hc_abs_map.specs.declared.mapped.Mapped.{Mapped}
use Rattle.hc_abs_restart.specs.Restarted.{RestartedFits, is_among, placed_by}
use Rattle.hc_abs_restart.specs.declared.restart.Restart.{Restart}
use Rattle.hc_abs_restart.specs.declared.restart.Restarted.{Restarted}

-- ---- plans

abbrev pub placed_in : Restart → List ℕ → List ℕ
placed_in restart =
    placed_by (option_map (λ root. root.now) restart.root) (option_map engine_of restart.engine)

-- The URL path that the text stands for is in hand.
abbrev pub placed_plan : Restart → Plan Left
placed_plan restart = take_up main (slot_item Slot.Text ∷ []) (make main (λ text also. placed_in restart text) main main
    (begun_again restart.last (is_among restart.names.now)))

-- What follows a path that is made ready. No text stays in hand where a pass follows.
abbrev pub behind_path : Restart → Placing → Plan Left
behind_path restart (over next_pass) = put_down (done next_pass)
behind_path restart (over left) = done left
behind_path restart (named aliased) = unless_last restart.last (is_among restart.names.now)

-- ---- paths

-- The set of the paths that texts stand for, which are of bytes.
pub record ArePaths (restart : Restart) (texts paths : Automaton) : Type 0 where
  pub bytes : (text : List ℕ) → IsText text → IsText (placed_in restart text)
  pub made : AcceptsOnly (MadeOf (placed_in restart) (accepts texts)) paths

abbrev pub ready : AbsState → AbsState
ready state = with_text state main (whole (parts_of (slot_alone Slot.Text)))

-- The path is in hand.
abbrev pub IsPlaced : Restart → Tied → Named → Type 0
IsPlaced restart before made = (client : Option Addr) (state : AbsState) → EndsAt client before state
    → (values : TextSet)
    × IsSetOf values (Image (ready state) (λ text also. placed_in restart text) (pick (ready state).texts main)
    (pick (ready state).texts main))
    × HasName made client (with_text (ready state) main (any_of values))

-- ---- ends

module _ (restart : Restart) where
  -- The end behind a path in hand.
  abbrev pub IsAfter : Named → Restarted → Type 0
  IsAfter path made = (client : Option Addr) (state : AbsState) → HasName path client state
      → AreBranches (RestartedFits client) (unless_last restart.last (is_among restart.names.now)) state (made ∷ [])

  -- The end behind one of the branches of a path.
  abbrev pub IsBehind : Mapped → Restarted → Type 0
  IsBehind mapped made = (client : Option Addr)
      → IsNext (MappedFits client) (RestartedFits client) (behind_path restart) mapped (made ∷ [])

  abbrev pub AreBehind : List Mapped → List Restarted → Type 0
  AreBehind mapped found = (client : Option Addr)
      → AreNext (MappedFits client) (RestartedFits client) (behind_path restart) mapped found
