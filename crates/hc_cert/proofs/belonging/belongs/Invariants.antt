use Rattle.std.proofs.Common.{drop, Option}
use Rattle.hc_invariant.specs.declared.named.NamedCell.{NamedCell}
use Rattle.hc_plan.specs.Hands.{cell_of}
use Rattle.hc_cert.specs.Cells.{Belongs}
use Rattle.hc_cert.specs.Coded.{AreReady, named_in}
use Rattle.hc_cert.proofs.belonging.belongs.Given as goal

-- what is found among those that are left is found among all
abbrev pub invariant-loop-own : goal.invariant-loop-own
invariant-loop-own l = AreReady (drop l.own-index l.cells)
    × ((found : Option NamedCell) → Belongs (cell_of l.states) l.at (named_in (drop l.own-index l.cells)) found
    → Belongs (cell_of l.states) l.at (named_in l.cells) found)
