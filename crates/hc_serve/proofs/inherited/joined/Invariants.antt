use Rattle.std.proofs.Common.{◌≡◌, ◌++◌, drop}
use Rattle.hc_serve.proofs.inherited.joined.Given as goal

abbrev pub invariant-loop-map : goal.invariant-loop-map
invariant-loop-map l = l.fn.list ++ l.more ≡ l.list ++ drop l.map-index l.more
