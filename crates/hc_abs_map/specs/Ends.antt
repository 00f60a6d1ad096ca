-- Where a URL path leads, as code adds it.
use Rattle.std.specs.Prelude.{◌≡◌, ◌++◌, ℕ, List, [], ◌∷◌, Option, None, Some}
use Rattle.hc_cells.specs.Cells.{Sets}
use Rattle.hc_cells.specs.declared.ties.Ties.{Ties}
use Rattle.hc_plan.specs.Slots.{Slot}
use Rattle.hc_plan.specs.declared.hand.Element.{Element}
use Rattle.hc_plan.specs.declared.hand.Element.TheVariants as element
use Rattle.hc_plan.specs.declared.hand.Way.{Way}
use Rattle.hc_abs_pass.specs.declared.ends.Left.{Left}
use Rattle.hc_abs_map.specs.Names.{tied_by}
use Rattle.hc_abs_map.specs.declared.mapped.Mapped.{Mapped}
use Rattle.hc_abs_map.specs.declared.mapped.Mapped.TheVariants as mapped

abbrev pub cell_in : Mapped → Sets
cell_in (mapped.Over tied left) = tied.cell
cell_in (mapped.Name named aliased) = named.tied.cell

-- A slot behind the document root.
abbrev pub root_before : List ℕ → Slot → List Element
root_before root slot = element.Known root ∷ element.Open slot 0 ∷ []

-- The pass ends on a way, if there is one.
abbrev pub over_on : Ties → Option Way → Left → List Mapped
over_on ties None left = []
over_on ties (Some way) left = mapped.Over (tied_by ties way) left ∷ []

abbrev pub AddsOver : Ties → Option Way → Left → List Mapped → List Mapped → Type 0
AddsOver ties way left earlier later = later ≡ earlier ++ over_on ties way left
