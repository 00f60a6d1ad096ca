use Rattle.std.proofs.Common.{◌≡◌, drop}
use Rattle.serde_json.specs.View.{items_view}
use Rattle.hc_json.specs.Hosts.{are_servers}
use Rattle.hc_json.proofs.hosts.are_servers.Given as goal

-- the values that are left decide
abbrev pub invariant-loop-value : goal.invariant-loop-value
invariant-loop-value l = are_servers (items_view (drop l.value-index l.values)) ≡ are_servers (items_view l.values)
