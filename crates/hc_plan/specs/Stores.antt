-- What is stored in slots, in code.
use Rattle.std.specs.Prelude.{◌≡◌, List, [], ◌∷◌}
use Rattle.hc_cells.specs.Cells.{Puts, Sets}
use Rattle.hc_cells.specs.Ties.{untied}
use Rattle.hc_cells.specs.declared.ties.Ties.{Ties}
use Rattle.hc_plan.specs.declared.storing.Stored.{Stored}
use Rattle.hc_plan.specs.declared.storing.Tied.{Tied}

-- One after the other.
abbrev pub Stores : Sets → Ties → List Stored → Tied → Type 0
Stores sets ties [] made = (made.cell ≡ sets) × (made.ties ≡ ties)
Stores sets ties (one ∷ more) made =
    (mid : Sets) × Puts sets one.slot one.set mid × Stores mid (untied one.slot ties) more made
