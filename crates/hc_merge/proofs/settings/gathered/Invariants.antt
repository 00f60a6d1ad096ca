use Rattle.std.proofs.Common.{◌≡◌, ◌++◌}
use Rattle.std.specs.VecDeque.Iter.{deque_iter_rest}
use Rattle.hc_merge.specs.RewritingView.{rules_in}
use Rattle.hc_merge.proofs.settings.gathered.Given as goal

abbrev pub invariant-loop-list : goal.invariant-loop-list
invariant-loop-list l = rules_in l.lists.items ≡ l.rules ++ rules_in (deque_iter_rest l.list-iterator)
