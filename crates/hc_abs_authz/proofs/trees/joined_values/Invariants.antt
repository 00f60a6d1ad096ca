use Rattle.std.proofs.Common.{take}
use Rattle.hc_abs_authz.specs.Asking.{AreValuesOf}
use Rattle.hc_abs_authz.proofs.trees.joined_values.Given as goal
use Rattle.hc_model.specs.Joined.{required_by}

abbrev pub invariant-loop-join : goal.invariant-loop-join
invariant-loop-join l = AreValuesOf l.asking (required_by (take l.join-index l.joins)) l.so_far
