use Rattle.std.proofs.Common.{◌≡◌, map, take}
use Rattle.serde_json.specs.View.{view}
use Rattle.hc_json.specs.Trail.{sourced, sourced_data}
use Rattle.hc_json.proofs.trail.trail_value.Given as goal

abbrev pub invariant-loop-event : goal.invariant-loop-event
invariant-loop-event l =
    map view l.values.items ≡ map sourced_data (map (sourced l.world.files) (take l.event-index l.events))
