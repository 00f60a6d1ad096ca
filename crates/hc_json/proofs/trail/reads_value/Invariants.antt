use Rattle.std.proofs.Common.{◌≡◌, map, take}
use Rattle.serde_json.specs.View.{view}
use Rattle.hc_json.specs.Trail.{read_data}
use Rattle.hc_json.proofs.trail.reads_value.Given as goal

abbrev pub invariant-loop-read : goal.invariant-loop-read
invariant-loop-read l = map view l.values.items ≡ map read_data (take l.read-index l.reads)
