use Rattle.std.proofs.Common.{◌≡◌, ◌++◌, take}
use Rattle.hc_says.proofs.defines.with_each.Given as goal

abbrev pub invariant-loop-define : goal.invariant-loop-define
invariant-loop-define l = l.made ≡ l.fn.made ++ take l.define-index l.defines
