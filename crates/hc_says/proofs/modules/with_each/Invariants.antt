use Rattle.std.proofs.Common.{◌≡◌, ◌++◌, take}
use Rattle.hc_says.proofs.modules.with_each.Given as goal

abbrev pub invariant-loop-name : goal.invariant-loop-name
invariant-loop-name l = l.modules ≡ l.fn.modules ++ take l.name-index l.names
