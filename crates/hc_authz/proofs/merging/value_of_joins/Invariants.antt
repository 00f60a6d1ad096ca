use Rattle.std.proofs.Common.{◌≡◌, take}
use Rattle.std.specs.Option.{option_map}
use Rattle.hc_authz.specs.Values.{value}
use Rattle.hc_authz.proofs.merging.value_of_joins.Given as goal
use Rattle.hc_model.specs.Joined.{required_by}

abbrev pub invariant-loop-join : goal.invariant-loop-join
invariant-loop-join l = option_map (value l.caller) (required_by (take l.join-index l.joins)) ≡ l.so_far
