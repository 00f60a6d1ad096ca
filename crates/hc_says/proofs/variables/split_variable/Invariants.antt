use Rattle.std.proofs.Common.{◌≡◌, ◌++◌, ℕ, List, Option, drop, take}
use Rattle.hc_says.specs.VariablesView.{braced}
use Rattle.hc_says.proofs.variables.split_variable.Given as goal

-- none so far
abbrev pub invariant-loop-at : goal.invariant-loop-at
invariant-loop-at l = (value : List ℕ → Option (List ℕ))
    → braced value l.text ≡ take l.at l.text ++ braced value (drop l.at l.text)
