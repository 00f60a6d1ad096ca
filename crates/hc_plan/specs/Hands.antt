-- What code knows of texts in hand over a cell, as plans speak of it.
use Rattle.std.specs.Prelude.{◌≡◌, ℕ, List, ◌∷◌, [], map, Option, None, Some}
use Rattle.std.specs.List.{AllByRecursion}
use Rattle.hc_cells.specs.Cells.{Sets, holds}
use Rattle.hc_dfa.specs.Automata.{Automaton, accepts}
use Rattle.hc_dfa.specs.Texts.{IsText, TextSet}
use Rattle.hc_pat_lang.specs.Sets.{AcceptsOnly}
use Rattle.hc_plan.specs.Shapes.{shape_of}
use Rattle.hc_plan.specs.Slots.{Slot}
use Rattle.hc_plan.specs.States.{Part, PartHas, PartsHave, ReadNow, ReadsNow, free, known, open_slot}
use Rattle.hc_plan.specs.Texts.{any, of_bytes}
use Rattle.hc_plan.specs.declared.hand.Element.{Element}
use Rattle.hc_plan.specs.declared.hand.Element.TheVariants as element
use Rattle.hc_plan.specs.declared.shape.Shape.{Shape}

abbrev pub set_in : Automaton → TextSet
set_in set = of_bytes (accepts set)

abbrev pub cell_of : Sets → Slot → TextSet
cell_of sets slot = of_bytes (holds sets slot)

abbrev pub side_of : Option Automaton → TextSet
side_of None = any
side_of (Some set) = accepts set

abbrev pub part_of : Element → Part
part_of (element.Known text) = known text
part_of (element.Open slot skip) = open_slot slot skip
part_of (element.Free set) = free (set_in set)

abbrev pub parts_of : List Element → List Part
parts_of elements = map part_of elements

-- ---- shapes

-- A known text is one of bytes.
abbrev pub IsOfBytes : Part → Type 0
IsOfBytes (known text) = IsText text
IsOfBytes other = Unit {0}

pub record IsElementShape (sets : Sets) (element : Element) (shape : Shape) : Type 0 where
  pub now : Part
  pub reads : ReadsNow (cell_of sets) (part_of element) now
  pub bytes : IsOfBytes (part_of element)
  pub is : shape ≡ shape_of (now ∷ [])

pub record IsShape (sets : Sets) (elements : List Element) (shape : Shape) : Type 0 where
  pub now : List Part
  pub reads : ReadNow (cell_of sets) (parts_of elements) now
  pub bytes : AllByRecursion IsOfBytes (parts_of elements)
  pub is : shape ≡ shape_of now

-- ---- sets

-- What an element may be, and what elements joined may be.
abbrev pub HasPart : Sets → Element → List ℕ → Type 0
HasPart sets element = PartHas (cell_of sets) (part_of element)

abbrev pub HasParts : Sets → List Element → List ℕ → Type 0
HasParts sets elements = PartsHave (cell_of sets) (parts_of elements)

-- The automaton of what an element may be, which is of bytes.
pub record IsElementSet (sets : Sets) (element : Element) (made : Automaton) : Type 0 where
  pub accepts : AcceptsOnly (HasPart sets element) made
  pub bytes : IsOfBytes (part_of element)

pub record IsPartsSet (sets : Sets) (elements : List Element) (made : Automaton) : Type 0 where
  pub accepts : AcceptsOnly (HasParts sets elements) made
  pub bytes : AllByRecursion IsOfBytes (parts_of elements)
