use Rattle.std.proofs.Common.{◌≡◌, ◌++◌, drop}
use Rattle.hc_model.proofs.rules.with_copies.Given as goal

abbrev pub invariant-loop-rule : goal.invariant-loop-rule
invariant-loop-rule l = l.fn.list ++ l.more ≡ l.list ++ drop l.rule-index l.more
