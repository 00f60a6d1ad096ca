-- The cells of a `verify`: their sets are read, and then made. Our own choice.
use Rattle.std.specs.Prelude.{◌≡◌, ℕ, List, [], ◌∷◌, ◌++◌, ⊤, cond, Option, Some, None, option_and_then, option_map}
use Rattle.std.specs.Prelude.{Result}
use Rattle.std.specs.List.{AllZip, flat_map, fold}
use Rattle.std.specs.Option.{ok_or, option_or}
use Rattle.std.specs.Str.{str_to_ascii_lowercase}
use Rattle.serde_json.specs.Data.{Data}
use Rattle.hc_cells.specs.Cells as cells
use Rattle.hc_cells.specs.Cells.{set_at}
use Rattle.hc_cells.specs.Slots.{same_slot}
use Rattle.hc_cells.specs.declared.slot.Slot.{Slot}
use Rattle.hc_cells.specs.declared.slot.Slot.TheVariants as slot
use Rattle.hc_dfa.specs.Automata.{Automaton}
use Rattle.hc_invariant.specs.declared.cut.Cut.{Cut}
use Rattle.hc_invariant.specs.declared.cut.Cut.TheVariants as cut
use Rattle.hc_invariant.specs.declared.named.NamedCell.{NamedCell}
use Rattle.hc_json.specs.Cells.{CellForm, CutForm, SlotForm, dir, end, env, header, info, method, name, origin, pass}
use Rattle.hc_json.specs.Cells.{path, query, request, server, text}
use Rattle.hc_regset.specs.Forms.{Form}
use Rattle.hc_regset.specs.Sets.{IsSetOf, refusal}
use Rattle.hc_stated.specs.Shapes.{set_of}
use Rattle.hc_stated.specs.Stated.{within}
use Rattle.hc_stated.specs.declared.field.Field.{Field}
use Rattle.hc_stated.specs.declared.field.Field.TheVariants as field
use Rattle.hc_stated.specs.declared.stated.BadPattern.{BadPattern}

-- ---- the sets

abbrev pub cut_of : CutForm → Cut
cut_of pass = cut.Pass
cut_of server = cut.Server
cut_of (dir own) = cut.Dir own

-- The name of a header is compared without case.
abbrev pub slot_of : SlotForm → Slot
slot_of origin = slot.Origin
slot_of path = slot.Path
slot_of query = slot.Query
slot_of text = slot.Text
slot_of name = slot.Name
slot_of info = slot.Info
slot_of end = slot.End
slot_of method = slot.Method
slot_of request = slot.Request
slot_of (env own) = slot.Env own
slot_of (header own) = slot.Header (str_to_ascii_lowercase own)

-- A cell with its sets, by their slots.
pub record CellSets : Type 0 where
  pub at : Cut
  pub rank : ℕ
  pub round : Option ℕ
  pub sets : List (Slot × Form)

-- These sets, and then those of the slots, where each is one.
abbrev pub slots_behind : List (Slot × Form) → List (SlotForm × Data) → Option (List (Slot × Form))
slots_behind sets [] = Some sets
slots_behind sets (written ∷ rest) =
    option_and_then (λ form. slots_behind (sets ++ (slot_of written.0, form) ∷ []) rest) (set_of written.1)

abbrev pub cell_with : CellForm → List (Slot × Form) → CellSets
cell_with form sets = record { at = cut_of form.at; rank = form.rank; round = form.round; sets = sets }

abbrev pub cell_sets : CellForm → Option CellSets
cell_sets form = option_map (cell_with form) (slots_behind [] form.slots)

-- These cells, and then those of the forms, where each set of theirs is one.
abbrev pub cells_behind : List CellSets → List CellForm → Option (List CellSets)
cells_behind cells [] = Some cells
cells_behind cells (form ∷ forms) = option_and_then (λ own. cells_behind (cells ++ own ∷ []) forms) (cell_sets form)

-- The cells with their sets, or their field where one is none.
abbrev pub sets_of_cells : List CellForm → Result (List CellSets) Field
sets_of_cells forms = ok_or (cells_behind [] forms) field.Cells

-- ---- their patterns

-- The first one that isn't read, in the order of the cells, and in each of its members.
abbrev pub bad_in_sets : List (Slot × Form) → Option BadPattern
bad_in_sets [] = None
bad_in_sets (own ∷ rest) = option_or (option_map (within field.Cells) (refusal own.1)) (bad_in_sets rest)

abbrev pub bad_in_cells : List CellSets → Option BadPattern
bad_in_cells [] = None
bad_in_cells (own ∷ rest) = option_or (bad_in_sets own.sets) (bad_in_cells rest)

-- ---- what is stated

-- What a slot has, when a set is put at its own slot.
abbrev pub put_at : Slot → Option Form → Slot × Form → Option Form
put_at at before own = cond (same_slot own.0 at) (Some own.1) before

-- What a slot has, where these are put one after another; none where there is none for it.
abbrev pub form_at : List (Slot × Form) → Slot → Option Form
form_at sets at = fold (put_at at) None sets

abbrev pub IsAt : Option Form → Option Automaton → Type 0
IsAt None None = ⊤
IsAt (Some form) (Some set) = IsSetOf form set
IsAt form set = ⊥

-- Each slot has the automaton of its set, and no other slot has one.
abbrev pub HasSets : List (Slot × Form) → cells.Sets → Type 0
HasSets sets made = (at : Slot) → IsAt (form_at sets at) (set_at made at)

-- The name of a variable; another slot names none.
abbrev pub variable_in : Slot → List (List ℕ)
variable_in (slot.Env own) = own ∷ []
variable_in other = []

-- The variables that have a set, in the order of the sets.
abbrev pub variables_in : List (Slot × Form) → List (List ℕ)
variables_in sets = flat_map (λ own. variable_in own.0) sets

pub record IsCell (form : CellSets) (cell : NamedCell) : Type 0 where
  pub at : cell.at ≡ form.at
  pub rank : cell.rank ≡ form.rank
  pub round : cell.round ≡ form.round
  pub variables : cell.variables ≡ variables_in form.sets
  pub sets : HasSets form.sets cell.cell

-- In their order.
abbrev pub AreCells : List CellSets → List NamedCell → Type 0
AreCells forms cells = AllZip IsCell forms cells
