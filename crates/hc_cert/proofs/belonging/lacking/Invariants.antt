use Rattle.std.proofs.Common.{ℕ, List, None, drop}
use Rattle.hc_plan.specs.Hands.{cell_of}
use Rattle.hc_cert.specs.Cells.{Belongs, Lacks}
use Rattle.hc_cert.specs.Coded.{AreReady, named_in}
use Rattle.hc_cert.proofs.belonging.lacking.Given as goal

-- they belong to none of those that are left, and lack there what they lack
abbrev pub invariant-loop-own : goal.invariant-loop-own
invariant-loop-own l = AreReady (drop l.own-index l.cells)
    × Belongs (cell_of l.states) l.at (named_in (drop l.own-index l.cells)) None
    × ((text : List ℕ) → Lacks (cell_of l.states) l.at (named_in (drop l.own-index l.cells)) text
    → Lacks (cell_of l.states) l.at (named_in l.cells) text)
