use Rattle.std.proofs.Common.{◌≡◌, ◌++◌, map, take}
use Rattle.hc_says.proofs.standard.with_each.Given as goal

abbrev pub invariant-loop-name : goal.invariant-loop-name
invariant-loop-name l = l.modules ≡ l.fn.modules ++ map (λ name. name.now) (take l.name-index l.names)
