use Rattle.std.proofs.Common.{◌≡◌, ◌++◌, drop}
use Rattle.hc_merge.proofs.settings.behind.Given as goal

abbrev pub invariant-loop-item : goal.invariant-loop-item
invariant-loop-item g l = l.fn.list ++ l.more ≡ l.list ++ drop l.item-index l.more
