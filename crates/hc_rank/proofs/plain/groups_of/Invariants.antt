use Rattle.std.proofs.Common.{◌≤◌, drop, length}
use Rattle.hc_rank.specs.Sets.{AreGroups}
use Rattle.hc_rank.proofs.plain.groups_of.Given as goal

abbrev pub invariant-loop-left : goal.invariant-loop-left
invariant-loop-left l = record {
  within : l.left ≤ length l.template;
  groups : AreGroups l.groups (drop l.left l.template);
}

abbrev pub decreases-loop-left : goal.decreases-loop-left
decreases-loop-left l = l.left
