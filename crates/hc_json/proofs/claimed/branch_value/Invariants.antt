use Rattle.std.proofs.Common.{◌≡◌, map, take}
use Rattle.serde_json.specs.View.{view}
use Rattle.hc_json.specs.Claimed.{decision_data}
use Rattle.hc_json.proofs.claimed.branch_value.Given as goal

abbrev pub invariant-loop-decision : goal.invariant-loop-decision
invariant-loop-decision l = map view l.values.items ≡ map decision_data (take l.decision-index l.branch)
