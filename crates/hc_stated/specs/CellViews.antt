-- What code has of cells.
use Rattle.std.specs.Prelude.{◌≡◌, List, map, Option, Some, None, Result, Ok, Err, Vec, option_map}
use Rattle.std.specs.declared.alloc.Global.{Global}
use Rattle.hc_base.specs.declared.fault.Fault.{Fault}
use Rattle.hc_base.specs.declared.fault.Fault.TheVariants.{NoMemory, Refused}
use Rattle.hc_cells.specs.declared.slot.Slot.{Slot}
use Rattle.hc_regset.specs.Forms.{Form, form_of}
use Rattle.hc_stated.specs.Cells as spec
use Rattle.hc_stated.specs.declared.cells.CellSets.{CellSets}
use Rattle.hc_stated.specs.declared.cells.SlotSet.{SlotSet}
use Rattle.hc_stated.specs.declared.field.Field.{Field}
use Rattle.hc_stated.specs.declared.stated.BadPattern.{BadPattern}

abbrev pub slot_set : SlotSet → Slot × Form
slot_set own = (own.slot, form_of own.set)

abbrev pub slot_sets : List SlotSet → List (Slot × Form)
slot_sets sets = map slot_set sets

-- Sets that were read one after another, or none.
abbrev pub slot_sets_in : Option (Vec SlotSet Global) → Option (List (Slot × Form))
slot_sets_in sets = option_map (λ read. slot_sets read.items) sets

abbrev pub cell_view : CellSets → spec.CellSets
cell_view cell = record { at = cell.at; rank = cell.rank; round = cell.round; sets = slot_sets cell.sets.items }

abbrev pub cells_view : List CellSets → List spec.CellSets
cells_view cells = map cell_view cells

abbrev pub read_cells_view : Result (Vec CellSets Global) Field → Result (List spec.CellSets) Field
read_cells_view (Ok cells) = Ok (cells_view cells.items)
read_cells_view (Err field) = Err field

-- Each pattern is read, and this is what was to be made.
pub record IsMade {T : Type 0} (bad : Option BadPattern) (Is : T → Type 0) (made : T) : Type 0 where
  pub is_read : bad ≡ None
  pub is : Is made

-- It is made, or the answer is the first pattern that isn't read, unless memory was refused.
abbrev pub Makes : {T : Type 0} → Result T (Fault BadPattern) → Option BadPattern → (T → Type 0) → Type 0
Makes (Ok made) bad Is = IsMade bad Is made
Makes (Err (Refused why)) bad Is = bad ≡ Some why
Makes (Err NoMemory) bad Is = Unit {0}
