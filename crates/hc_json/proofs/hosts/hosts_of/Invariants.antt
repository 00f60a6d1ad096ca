use Rattle.std.proofs.Common.{◌≡◌, ◌++◌, drop, map}
use Rattle.serde_json.specs.View.{items_view}
use Rattle.hc_json.specs.CommandView.{host_view}
use Rattle.hc_json.specs.Hosts.{AreNamed, hosts_of}
use Rattle.hc_json.proofs.hosts.hosts_of.Given as goal

-- the servers that were read, and those of the values that are left, are all; the names of the first are of their form
abbrev pub invariant-loop-value : goal.invariant-loop-value
invariant-loop-value l =
    (map host_view l.hosts.items ++ hosts_of (items_view (drop l.value-index l.values))
    ≡ hosts_of (items_view l.values))
    × AreNamed (map host_view l.hosts.items)
