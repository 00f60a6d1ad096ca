use Rattle.hc_abs_pass.specs.Listing.{AreBehind}
use Rattle.hc_abs_pass.proofs.list.all_behind.Given as goal

abbrev pub invariant-loop-branch : goal.invariant-loop-branch
invariant-loop-branch l = AreBehind l.rule l.behind l.before l.yielded l.later.items
