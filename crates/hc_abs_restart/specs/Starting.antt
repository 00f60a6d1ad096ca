-- What is known of the slots at the start of the pass that follows.
use Rattle.std.specs.Prelude.{◌≡◌, ◌&&◌, ◌||◌, not, ℕ, List, [], ◌∷◌, ◌++◌, Bool, Option}
use Rattle.std.specs.Str.{bytes_eq}
use Rattle.hc_addr.specs.declared.addr.Addr.{Addr}
use Rattle.hc_cells.specs.Cells.{Sets, of_set}
use Rattle.hc_dfa.specs.Automata.{Automaton}
use Rattle.hc_dfa.specs.Texts.{TextSet}
use Rattle.hc_plan.specs.Branches.{renamed, source_set}
use Rattle.hc_plan.specs.Hands.{cell_of}
use Rattle.hc_plan.specs.Plan.{Source}
use Rattle.hc_plan.specs.Slots.{Slot, put}
use Rattle.hc_plan.specs.States.{AbsState}
use Rattle.hc_plan.specs.Texts.{any, of_bytes}
use Rattle.hc_plan.specs.declared.storing.Tied.{Tied}
use Rattle.hc_abs_pass.specs.Ends.{EndsAt}
use Rattle.hc_abs_pass.specs.Restarting.{at_start, looked_at, pass_source}
use Rattle.hc_abs_restart.specs.Restarted.{is_among}

-- ---- sets

-- The sets of slots, where these variables are looked at.
abbrev pub started : Sets → (List ℕ → Bool) → Slot → TextSet
started sets names slot text =
    (not (looked_at names slot) && of_bytes any text) || source_set (cell_of sets) (pass_source slot) text

abbrev pub IsStarted : Sets → List (List ℕ) → Sets → Type 0
IsStarted sets names made = (slot : Slot) → cell_of made slot ≡ started sets (is_among names) slot

-- The set of a source; none where it may be any text.
abbrev pub IsSource : Sets → Source → Option Automaton → Type 0
IsSource sets source found = of_bytes (of_set found) ≡ source_set (cell_of sets) source

abbrev pub nothing : TextSet
nothing = bytes_eq []

-- No file was found yet.
abbrev pub emptied : (Slot → TextSet) → Slot → TextSet
emptied cell = put Slot.Location nothing (put Slot.Info nothing (put Slot.Name nothing cell))

-- One more variable is looked at.
abbrev pub LooksAt : Sets → List ℕ → Sets → Sets → Type 0
LooksAt sets name before made = (names : List (List ℕ)) → IsStarted sets names before
    → IsStarted sets (names ++ name ∷ []) made

-- ---- states

abbrev pub IsRenamed : Tied → List (List ℕ) → Tied → Type 0
IsRenamed before names made = (client : Option Addr) (state : AbsState) → EndsAt client before state
    → EndsAt client made (renamed state pass_source (looked_at (is_among names)) at_start)
