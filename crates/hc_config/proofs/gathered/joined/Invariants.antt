use Rattle.std.proofs.Common.{◌≡◌, ◌++◌, drop}
use Rattle.hc_config.proofs.gathered.joined.Given as goal

abbrev pub invariant-loop-name : goal.invariant-loop-name
invariant-loop-name l = l.fn.names ++ l.more ≡ l.names ++ drop l.name-index l.more
